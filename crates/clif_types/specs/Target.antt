-- What a target tells a front end.
use Rattle.clif_types.specs.declared.types.«Type».{«Type»}
use Rattle.clif_types.specs.declared.types.«Type».TheVariants.{Lane}
use Rattle.clif_types.specs.declared.types.LaneType.TheVariants.{I16, I32, I64}
use Rattle.clif_types.specs.declared.target.PointerWidth.{PointerWidth}
use Rattle.clif_types.specs.declared.target.PointerWidth.TheVariants as width

-- the integer type of a pointer
abbrev pub pointer_type_of : PointerWidth → «Type»
pointer_type_of width.U16 = Lane I16
pointer_type_of width.U32 = Lane I32
pointer_type_of width.U64 = Lane I64
