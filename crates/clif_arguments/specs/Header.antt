-- What header lines say of the function and of its target. Source: own; docs/SCRIPTS.md describes the same format.
use Rattle.std.specs.Prelude.{◌≡◌, ◌<◌, ℕ, ℤ, ◌⊎◌, ◌++◌, List, [], ◌∷◌, length, Option, Some, None, codes}
use Rattle.clif_types.specs.Signature.{SignatureShape}
use Rattle.clif_types.specs.Texts.{call_conv_text}
use Rattle.clif_types.specs.declared.call_conv.CallConv.{CallConv}
use Rattle.clif_types.specs.declared.call_conv.CallConv.TheVariants.{Fast, SystemV}
use Rattle.clif_types.specs.declared.extfunc.AbiParam.{AbiParam}
use Rattle.clif_types.specs.declared.extname.UserExternalName.{UserExternalName}
use Rattle.clif_types.specs.declared.extname.UserFuncName.{UserFuncName}
use Rattle.clif_types.specs.declared.extname.UserFuncName.TheVariants as name
use Rattle.clif_types.specs.declared.target.PointerWidth.{PointerWidth}
use Rattle.clif_types.specs.declared.target.PointerWidth.TheVariants.{U64}
use Rattle.clif_calls.specs.declared.answer.Moves.{Moves}
use Rattle.clif_calls.specs.declared.answer.Moves.TheVariants as moves
use Rattle.clif_calls.specs.declared.answer.OutsideAnswer.{OutsideAnswer}
use Rattle.clif_region_kinds.specs.declared.RegionKind.{RegionKind}
use Rattle.clif_region_kinds.specs.declared.RegionKind.TheVariants as kind
use Rattle.clif_arguments.specs.declared.header.Header.{Header}
use Rattle.clif_words.specs.Spelling.{IsDecimal, IsMagnitude, IsNumber, IsTypeWord, pointer_text}

-- a name by two numbers, as `u0:0`
abbrev pub IsUserName : List ℕ → UserExternalName → Type 0
IsUserName word user = (namespace index : List ℕ) × (word ≡ codes "u" ++ (namespace ++ (codes ":" ++ index))) × IsDecimal namespace user.namespace × IsDecimal index user.index

-- the name of a function: `%` and a text that isn't empty, or two numbers
abbrev pub IsFunctionName : List ℕ → UserFuncName → Type 0
IsFunctionName word (name.Testcase text) = (0 < length text) × (word ≡ codes "%" ++ text)
IsFunctionName word (name.User user) = IsUserName word user

-- the words are the types of the parameters, one for one
abbrev pub AreTypes : List (List ℕ) → List AbiParam → Type 0
AreTypes [] [] = Unit {0}
AreTypes (word ∷ words) (param ∷ params) = IsTypeWord word param.value_type × AreTypes words params
AreTypes _ _ = ⊥

-- what is returned: its types behind an arrow, or no words where nothing is
abbrev pub AreReturned : List (List ℕ) → List AbiParam → Type 0
AreReturned words [] = words ≡ []
AreReturned words (param ∷ params) = (types : List (List ℕ)) × (words ≡ codes "->" ∷ types) × AreTypes types (param ∷ params)

-- `(types) -> types CONV`
pub record IsSignature (words : List (List ℕ)) (signature : SignatureShape) : Type 0 where
  pub taken : List (List ℕ)
  pub returned : List (List ℕ)
  pub order : words ≡ codes "(" ∷ (taken ++ (codes ")" ∷ (returned ++ (call_conv_text signature.call_conv ∷ []))))
  pub params : AreTypes taken signature.params
  pub returns : AreReturned returned signature.returns

-- a function: its name and its signature
abbrev pub NamedSignature : Type 0
NamedSignature = UserFuncName × SignatureShape

-- the words behind `function`
abbrev pub IsFunction : List (List ℕ) → NamedSignature → Type 0
IsFunction words function = (word : List ℕ) × (rest : List (List ℕ)) × (words ≡ word ∷ rest) × IsFunctionName word function.0 × IsSignature rest function.1

-- the words are these numbers, one for one
abbrev pub AreNumbers : List (List ℕ) → List ℤ → Type 0
AreNumbers [] [] = Unit {0}
AreNumbers (word ∷ words) (number ∷ numbers) = IsNumber word number × AreNumbers words numbers
AreNumbers _ _ = ⊥

-- the words behind `answer`: the name of a function, and what a call of it returns
abbrev pub IsAnswerLine : List (List ℕ) → OutsideAnswer → Type 0
IsAnswerLine words answer = (word : List ℕ) × (rest : List (List ℕ)) × (words ≡ word ∷ rest) × IsFunctionName word answer.callee × (answer.item ≡ None) × AreNumbers rest answer.values.items

-- the words behind `throw`: the name of a function, the item of its table to which a call of it goes, and two numbers that it throws
abbrev pub IsThrowLine : List (List ℕ) → OutsideAnswer → Type 0
IsThrowLine words answer =
    (word place first second : List ℕ) × (item : ℕ) × (words ≡ word ∷ place ∷ first ∷ second ∷ []) × IsFunctionName word answer.callee
    × (answer.item ≡ Some item) × IsMagnitude place item × AreNumbers (first ∷ second ∷ []) answer.values.items

-- the words behind `moves`: what a collector makes of other numbers than 0
abbrev pub IsMovesLine : List (List ℕ) → Moves → Type 0
IsMovesLine words (moves.Add distance) = (word : List ℕ) × (words ≡ codes "add" ∷ word ∷ []) × IsNumber word distance
IsMovesLine words moves.One = words ≡ codes "one" ∷ []
IsMovesLine words moves.Events = words ≡ codes "events" ∷ []

-- the words behind `region`: what a callback answers that is asked for the alias regions of accesses to stack slots
abbrev pub IsRegionLine : List (List ℕ) → RegionKind → Type 0
IsRegionLine words kind.Refuse = words ≡ codes "refuse" ∷ []
IsRegionLine words (kind.Intern user_id) = (word : List ℕ) × (words ≡ codes "intern" ∷ word ∷ []) × IsMagnitude word user_id
IsRegionLine words kind.Slot = words ≡ codes "slot" ∷ []
IsRegionLine words kind.SlotNone = words ≡ codes "slot_none" ∷ []
IsRegionLine words (kind.Const region) = (word : List ℕ) × (words ≡ codes "const" ∷ word ∷ []) × IsMagnitude word region
IsRegionLine words (kind.Alternate user_id) = (word : List ℕ) × (words ≡ codes "alternate" ∷ word ∷ []) × IsMagnitude word user_id

-- what header lines say
pub record HeaderSaid : Type 0 where
  pub function : Option NamedSignature
  pub pointer_width : Option PointerWidth
  pub call_conv : Option CallConv
  -- how outside calls end in a run, in the order of the lines
  pub answers : List OutsideAnswer
  -- how a collector moves in a run
  pub moves : Option Moves
  -- how a callback answers for alias regions
  pub region : Option RegionKind

-- no header line
abbrev pub no_header : HeaderSaid
no_header = record { function = None; pointer_width = None; call_conv = None; answers = []; moves = None; region = None }

-- what the header lines so far said
abbrev pub header_said : Header → HeaderSaid
header_said header = record {
  function = header.function;
  pointer_width = header.pointer_width;
  call_conv = header.call_conv;
  answers = header.answers.items;
  moves = header.moves;
  region = header.region;
}

-- the words are a header line, of a kind of which there was none, or one of `answer` or `throw`
abbrev pub IsHeader : List (List ℕ) → HeaderSaid → HeaderSaid → Type 0
IsHeader words old new =
    ((rest : List (List ℕ)) × (function : NamedSignature) × (words ≡ codes "function" ∷ rest) × IsFunction rest function × (old.function ≡ None) × (new ≡ record old { function = Some function }))
    ⊎ (((width : PointerWidth) × (words ≡ codes "pointer" ∷ pointer_text width ∷ []) × (old.pointer_width ≡ None) × (new ≡ record old { pointer_width = Some width }))
    ⊎ (((conv : CallConv) × (words ≡ codes "conv" ∷ call_conv_text conv ∷ []) × (old.call_conv ≡ None) × (new ≡ record old { call_conv = Some conv }))
    ⊎ (((rest : List (List ℕ)) × (moves : Moves) × (words ≡ codes "moves" ∷ rest) × IsMovesLine rest moves × (old.moves ≡ None) × (new ≡ record old { moves = Some moves }))
    ⊎ (((rest : List (List ℕ)) × (region : RegionKind) × (words ≡ codes "region" ∷ rest) × IsRegionLine rest region × (old.region ≡ None) × (new ≡ record old { region = Some region }))
    ⊎ (((rest : List (List ℕ)) × (answer : OutsideAnswer) × (words ≡ codes "throw" ∷ rest) × IsThrowLine rest answer × (new ≡ record old { answers = old.answers ++ answer ∷ [] }))
    ⊎ ((rest : List (List ℕ)) × (answer : OutsideAnswer) × (words ≡ codes "answer" ∷ rest) × IsAnswerLine rest answer × (new ≡ record old { answers = old.answers ++ answer ∷ [] })))))))

-- the function's name, `u0:0` where no line says it
abbrev pub name_in : Option NamedSignature → UserFuncName
name_in None = name.User (record { namespace = 0; index = 0 })
name_in (Some function) = function.0

-- its signature: it takes and returns nothing and has the convention `fast`, where no line says it
abbrev pub signature_in : Option NamedSignature → SignatureShape
signature_in None = record { params = []; returns = []; call_conv = Fast }
signature_in (Some function) = function.1

-- the width of pointers, 64 bits where no line says it
abbrev pub pointer_width_in : Option PointerWidth → PointerWidth
pointer_width_in None = U64
pointer_width_in (Some width) = width

-- the target's convention, `system_v` where no line says it
abbrev pub call_conv_in : Option CallConv → CallConv
call_conv_in None = SystemV
call_conv_in (Some conv) = conv
