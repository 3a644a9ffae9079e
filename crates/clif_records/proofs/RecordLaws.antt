-- What follows from either answer of a call.
use Rattle.std.specs.Prelude.{Result, Ok, Err, OnOk, OnErr}

-- what follows where nothing failed, and where something did
pub on_ok : {T E : Type 0} (result : Result T E) (A B : Type 0) → (A → B) → OnOk result A → OnOk result B
on_ok (Ok value) A B follows holds = follows holds
on_ok (Err error) A B follows holds = tt

-- what follows from what holds where nothing failed, and from what holds where something did
pub either_way : {T E : Type 0} (result : Result T E) (A B C : Type 0) → (A → C) → (B → C) → OnOk result A → OnErr result B → C
either_way (Ok value) A B C went failed holds none = went holds
either_way (Err error) A B C went failed none holds = failed holds
