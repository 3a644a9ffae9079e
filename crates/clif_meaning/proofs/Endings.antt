-- A machine that ended stays.
use Rattle.std.proofs.Common.{◌≡◌, ◌≤◌, ℕ, zero, suc, refl, ◌∙◌, ap, arith, ◌⊎◌, inl, inr}
use Rattle.clif_meaning.specs.Memory.{Memory}
use Rattle.clif_meaning.specs.Machine.{Machine, Observation, Control, At, HasReturned, HasTrapped, IsStuck, ending_of, IsEnd, state_after, observed, EndStays}
use Rattle.clif_meaning.specs.Program.{Item}
use Rattle.clif_meaning.specs.FunctionView.{Placed}
use Rattle.clif_meaning.specs.ScriptMachine as script
use Rattle.clif_meaning.specs.FunctionMachine as function

-- If a state that shows an end is its own next state, an end stays.
pub stays : {State : Type 0} (machine : Machine State Observation)
    → ((state : State) → IsEnd (machine.shown state).ending → machine.next state ≡ state)
    → EndStays (observed machine)
stays machine still n zero h end = ap (λ (k : ℕ). observed machine k) (zero_below n h)
  where
    zero_below : (n : ℕ) → n ≤ 0 → 0 ≡ n
    zero_below n h = omega arith
stays {State} machine still n (suc m) h end = by (split n m h) (stays machine still n m)
  where
    split : (n m : ℕ) → n ≤ suc m → (suc m ≡ n) ⊎ (n ≤ m)
    split n m h = grind arith

    by : (suc m ≡ n) ⊎ (n ≤ m) → (n ≤ m → IsEnd (observed machine n).ending → observed machine m ≡ observed machine n)
        → observed machine (suc m) ≡ observed machine n
    by (inl same) earlier = ap (λ (k : ℕ). observed machine k) same
    by (inr before) earlier =
        let shown = earlier before end in
        let ended : IsEnd (observed machine m).ending = rw shown end in
        ap (λ (state : State). machine.shown state) (still (state_after machine m) ended) ∙ shown

script_still : (run : script.ScriptRun) (state : script.ScriptState) (control : Control Item) (memory : Memory)
    → IsEnd (ending_of control memory) → script.step_at run state control ≡ state
script_still run state (At rest) memory end = absurd end
script_still run state (HasReturned results) memory end = refl
script_still run state (HasTrapped reason) memory end = refl
script_still run state IsStuck memory end = refl

pub script_stays : (run : script.ScriptRun) → EndStays (observed (script.script_machine run))
script_stays run = stays (script.script_machine run) (λ state end. script_still run state state.control _ end)

function_still : (run : function.FunctionRun) (state : function.FunctionState) (control : Control Placed) (memory : Memory)
    → IsEnd (ending_of control memory) → function.step_at run state control ≡ state
function_still run state (At rest) memory end = absurd end
function_still run state (HasReturned results) memory end = refl
function_still run state (HasTrapped reason) memory end = refl
function_still run state IsStuck memory end = refl

pub function_stays : (run : function.FunctionRun) → EndStays (observed (function.function_machine run))
function_stays run = stays (function.function_machine run) (λ state end. function_still run state state.control _ end)
