-- The switch that a call of a script makes: its keys, and the edges to the blocks of their cases. After the documentation of
-- cranelift-frontend's `Switch`.
use Rattle.std.specs.Prelude.{ℕ, Bool, ◌&&◌, List, [], ◌∷◌, ◌++◌, map, unwrap_or, if◌then◌else◌}
use Rattle.std.specs.List.{list_all}
use Rattle.std.specs.FinMap as finite
use Rattle.std.specs.Ordering.{nat_cmp}
use Rattle.clif_types.specs.Types.{is_int}
use Rattle.clif_ir.specs.Body.{value_at}
use Rattle.clif_ranges.specs.declared.error.SwitchError.{SwitchError}
use Rattle.clif_ranges.specs.declared.error.SwitchError.TheVariants as switch_error
use Rattle.clif_ranges.specs.Cases.{CaseMap}
use Rattle.clif_meaning.specs.Instruction.{Edge, Instruction}
use Rattle.clif_meaning.specs.Ledger.{Ledger, or_invalid, type_of}
use Rattle.clif_meaning.specs.Name.{Name}
use Rattle.clif_builder.specs.declared.builder.FunctionBuilder.{FunctionBuilder}
use Rattle.clif_calls.specs.declared.call.Name as named
use Rattle.clif_calls.specs.declared.switch.SwitchEntry.{SwitchEntry}
use Rattle.clif_expansion.specs.Keys.{has_key_twice}
use Rattle.clif_expansion.specs.Switching.{switching}
use Rattle.clif_switch_calls.specs.SwitchCalls.{bare_edge}
use Rattle.clif_resolution.specs.Answers.{block_of}
use Rattle.clif_resolution.specs.Conditions.{is_open, is_target}
use Rattle.clif_resolution.specs.Errors.{call_error_of}
use Rattle.clif_resolution.specs.declared.answers.Answer.{Answer}
use Rattle.clif_resolution.specs.declared.condition.Condition.TheVariants as condition
use Rattle.clif_resolution.specs.declared.answers.CallError.{CallError}
use Rattle.clif_resolution.specs.declared.answers.CallError.TheVariants as error

-- the entries in the order in which they are set: a key, and the name of a block
abbrev pub set_entries : List SwitchEntry → List (ℕ × named.Name)
set_entries entries = map (λ entry. (entry.key, entry.block)) entries

-- a key comes twice
abbrev pub are_twice : List SwitchEntry → Bool
are_twice entries = has_key_twice (map (λ case. case.0) (set_entries entries))

-- The cases by rising keys, as the finite map of the entries has them: in whatever order these are set. Where a key comes twice,
-- there is no such map; the switch is refused then, and its keys are those that are set.
abbrev pub cases_of : List SwitchEntry → List (ℕ × named.Name)
cases_of entries =
    if are_twice entries then set_entries entries
    else finite.entries (finite.from_entries {R = nat_cmp} (set_entries entries))

abbrev pub keys_of : List SwitchEntry → List ℕ
keys_of entries = map (λ case. case.0) (cases_of entries)

-- the edges to the blocks of the cases, in order, and then to that of all other values, with names so known
abbrev pub edges_to : (named.Name → Name) → List SwitchEntry → (otherwise : named.Name) → List (Edge Name Name)
edges_to naming entries otherwise = map (λ case. bare_edge (naming case.1)) (cases_of entries) ++ bare_edge (naming otherwise) ∷ []

-- the switch, at the type that the ledger tells of its value
abbrev pub switch_under : (named.Name → Name) → Ledger → List SwitchEntry → (value otherwise : named.Name) → Instruction Name Name
switch_under naming ledger entries value otherwise =
    switching (keys_of entries) (or_invalid (type_of ledger (naming value))) (naming value) (edges_to naming entries otherwise)

-- ON A BUILDER ------------------------------------------------------------------------------------------------------------

-- the number of the block that a name leads to
abbrev pub number_at : List Answer → named.Name → ℕ
number_at answers name = unwrap_or (block_of answers name) 0

-- the entries as the builder's switch has them
abbrev pub cases_at : List Answer → List SwitchEntry → CaseMap
cases_at answers entries = finite.from_entries (map (λ entry. (entry.key, number_at answers entry.block)) entries)

-- each entry leads to a block that isn't sealed
abbrev pub are_targets : {R : Type 0} → FunctionBuilder R → List Answer → List SwitchEntry → Bool
are_targets b answers entries = list_all (λ entry. is_target b (block_of answers entry.block)) entries

-- a switch of this value may be made: in a current unfilled block, of an integer, to such blocks
abbrev pub can_switch_on : {R : Type 0} → FunctionBuilder R → List Answer → List SwitchEntry → (value : ℕ) → (otherwise : named.Name) → Bool
can_switch_on b answers entries value otherwise =
    is_open b && is_int (value_at b.func.now value).ty && is_target b (block_of answers otherwise) && are_targets b answers entries

-- how a refusal of the switch is told
abbrev pub switch_told : SwitchError → CallError
switch_told (switch_error.Build error) = call_error_of error
switch_told (switch_error.SetTwice key) = error.Refused (condition.KeyTwice key)
switch_told (switch_error.KeyTooWide ty max) = error.Refused (condition.KeyTooWide ty max)
switch_told switch_error.TableTooLong = error.Refused condition.TableTooLong
