-- How the refusal of a line is told, and what it prints. Source: own; docs/SCRIPTS.md has the same texts.
use Rattle.std.specs.Prelude.{ℕ, List, ◌++◌, ◌==◌, codes, if◌then◌else◌}
use Rattle.std.specs.Fmt.{decimal}
use Rattle.clif_words.specs.declared.error.Expected.{Expected}
use Rattle.clif_words.specs.declared.error.Expected.TheVariants as expected
use Rattle.clif_words.specs.declared.error.Fault.{Fault}
use Rattle.clif_words.specs.declared.error.Fault.TheVariants as fault
use Rattle.clif_words.specs.declared.error.LineError.{LineError}
use Rattle.clif_words.specs.declared.error.LineError.TheVariants as line
use Rattle.clif_words.specs.declared.error.ReadError.{ReadError}
use Rattle.clif_words.specs.declared.error.ReadError.TheVariants as read

-- the same refusal, of the line with this number
abbrev pub error_at : LineError → ℕ → ReadError
error_at line.Memory number = read.Memory
error_at (line.Fault why) number = read.Line number why

-- what should stand there
abbrev pub expected_text : Expected → List ℕ
expected_text expected.Text = codes "UTF-8 text"
expected_text expected.Call = codes "a call"
expected_text expected.AnswerName = codes "a name"
expected_text expected.Block = codes "a block"
expected_text expected.Value = codes "a value"
expected_text expected.Inst = codes "an instruction"
expected_text expected.Variable = codes "a variable"
expected_text expected.StackSlot = codes "a stack slot"
expected_text expected.Edge = codes "a block call"
expected_text expected.JumpTable = codes "a jump table"
expected_text expected.ExceptionTable = codes "an exception table"
expected_text expected.TableItem = codes "tag7, default or context"
expected_text expected.SwitchCase = codes "a key, a colon and a block"
expected_text expected.SwitchKey = codes "a key of 128 bits"
expected_text expected.ByteCount = codes "a size of 64 bits"
expected_text expected.Byte = codes "a byte"
expected_text expected.Alignment = codes "an alignment of 8 bits"
expected_text expected.NonZeroAlignment = codes "an alignment from 1 to 255"
expected_text expected.Overlap = codes "overlap or nonoverlap"
expected_text expected.Signature = codes "a signature"
expected_text expected.Function = codes "a function"
expected_text expected.SlotSize = codes "a size of 32 bits"
expected_text expected.AlignShift = codes "a shift of 8 bits"
expected_text expected.DynamicType = codes "a dynamic type of 32 bits"
expected_text expected.SourceLoc = codes "a source place of 32 bits"
expected_text expected.ValueLabel = codes "a label"
expected_text expected.GlobalValue = codes "vmctx or symbol"
expected_text expected.Type = codes "a type"
expected_text expected.Number = codes "a number of 64 bits"
expected_text expected.F16Bits = codes "the bits of an f16"
expected_text expected.F32Bits = codes "the bits of an f32"
expected_text expected.F64Bits = codes "the bits of an f64"
expected_text expected.Bytes = codes "the bytes of a constant"
expected_text expected.Condition = codes "a condition"
expected_text expected.TrapCode = codes "a trap code"
expected_text expected.Offset = codes "an offset"
expected_text expected.FunctionName = codes "the name of a function"
expected_text expected.SymbolName = codes "the name of a symbol"
expected_text expected.LibCall = codes "Memcpy, Memmove, Memset or Memcmp"
expected_text expected.CallConv = codes "a convention"
expected_text expected.PointerWidth = codes "16, 32 or 64"
expected_text expected.ItemNumber = codes "the number of an item"
expected_text expected.Moves = codes "add, one or events"
expected_text expected.RegionKind = codes "refuse, intern, slot, slot_none, const or alternate"
expected_text expected.UserId = codes "a user id of 32 bits"
expected_text expected.Region = codes "the number of a region"
expected_text expected.Open = codes "("
expected_text expected.ValueOrClose = codes "a value or )"
expected_text expected.TypeOrClose = codes "a type or )"
expected_text expected.ArrowOrCallConv = codes "-> or a convention"
expected_text expected.TypeOrCallConv = codes "a type or a convention"
expected_text expected.End = codes "the end of the line"
expected_text expected.PointType = codes "a point and a type after it"
expected_text expected.CursorInst = codes "an instruction for cursor"
expected_text expected.Equals = codes "="
expected_text expected.OtherHeader = codes "another header line"

-- at most so many names
abbrev pub names_text : ℕ → List ℕ
names_text count = if count == 0 then codes "no names" else (if count == 1 then codes "at most 1 name" else codes "at most " ++ (decimal count ++ codes " names"))

-- why a line can't be read
abbrev pub fault_text : Fault → List ℕ
fault_text (fault.Expected what) = codes "expected " ++ expected_text what
fault_text (fault.UnknownCall name) = codes "unknown call: " ++ name.now
fault_text (fault.NotForCursor name) = codes "no instruction for cursor: " ++ name.now
fault_text (fault.UnknownName name _) = codes "unknown name: " ++ name.now
fault_text (fault.UnknownType name _) = codes "unknown type: " ++ name.now
fault_text fault.NoType = codes "expected a type"
fault_text (fault.TooManyNames count) = codes "expected " ++ names_text count
fault_text (fault.Repeated name) = codes "expected no second line: " ++ name.now

-- `script error at line 12: expected a block`
abbrev pub read_error_text : ReadError → List ℕ
read_error_text read.Memory = codes "no memory"
read_error_text (read.Line number why) = codes "script error at line " ++ (decimal number ++ (codes ": " ++ fault_text why))

-- what should be where the line is at fault
abbrev pub wanted_by : Fault → Expected
wanted_by (fault.Expected what) = what
wanted_by (fault.UnknownName name what) = what
wanted_by (fault.UnknownType name what) = what
wanted_by fault.NoType = expected.PointType
wanted_by (fault.UnknownCall name) = expected.Call
wanted_by (fault.NotForCursor name) = expected.CursorInst
wanted_by (fault.TooManyNames count) = expected.Equals
wanted_by (fault.Repeated name) = expected.OtherHeader
