-- What clauses see of a signature.
use Rattle.std.specs.Prelude.{List}
use Rattle.clif_types.specs.declared.call_conv.CallConv.{CallConv}
use Rattle.clif_types.specs.declared.extfunc.AbiParam.{AbiParam}

-- the parameters, what is returned, and how both are passed
pub record SignatureShape : Type 0 where
  pub params : List AbiParam
  pub returns : List AbiParam
  pub call_conv : CallConv
