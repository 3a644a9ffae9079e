-- Where no request of a script builds an outside call, no item of its program makes one.
use Rattle.std.proofs.Common.{◌≡◌, Bool, true, false, [], ◌∷◌, ◌++◌, refl, sym, ap, subst, Option, Some, None, ◌∙◌}
use Rattle.std.specs.Prelude.{◌&&◌, fold, if◌then◌else◌, is_some, not}
use Rattle.std.specs.List.{AllByRecursion}
use Rattle.clif_meaning.specs.Event.{CallShape}
use Rattle.clif_meaning.specs.Name.{Name, answer_of, same_name}
use Rattle.clif_meaning.specs.Request.{Request, Build, Script}
use Rattle.clif_meaning.specs.Premises.{EachItem}
use Rattle.clif_meaning.specs.Program.{Program, Item, Instruct, Use, Assign, empty_program, extended, program_of, result_names, with_call, with_inserted, with_item_at}
use Rattle.clif_meaning.specs.Typing.{call_shape}
use Rattle.clif_simulation.specs.Carries.{CallsNothing}
use Rattle.clif_simulation.proofs.Carrying.{all_append}
use Rattle.clif_simulation.proofs.Redirections.EachRedirected.{all_redirected}
use Rattle.clif_meaning.proofs.Effects.{ProgramEffect, program_effect, Leaves, Inserts, Takes, Switches, Assigns, Uses, Builds, Redirects}

-- the request builds no outside call
abbrev builds_no_call : Request → Bool
builds_no_call (Build entries instruction) = not (is_some (call_shape instruction.operation))
builds_no_call _ = true

abbrev pub build_no_calls : Script → Bool
build_no_calls [] = true
build_no_calls (request ∷ script) = builds_no_call request && build_no_calls script

none_is : (o : Option CallShape) → not (is_some o) ≡ true → o ≡ None
none_is None none = refl
none_is (Some call) none = cc

both : (a b : Bool) → (a && b) ≡ true → (a ≡ true) × (b ≡ true)
both true b all = (refl, all)
both false b all = cc

with_one : (program : Program) (current : Option Name) (item : Item) → EachItem CallsNothing program → CallsNothing item → EachItem CallsNothing (with_item_at program current item)
with_one program None item all one block = all block
with_one program (Some current) item all one block = by (same_name block current)
  where
    by : (t : Bool) → AllByRecursion CallsNothing (if t then program.items block ++ item ∷ [] else program.items block)
    by true = all_append CallsNothing (program.items block) (item ∷ []) (all block) (one, tt)
    by false = all block

with_request : (program : Program) (request : Request) → builds_no_call request ≡ true → EachItem CallsNothing program → EachItem CallsNothing (extended program request)
with_request program request none all = by (program_effect request)
  where
    by : ProgramEffect request → EachItem CallsNothing (extended program request)
    by (Leaves stays is) = subst (EachItem CallsNothing) (sym (is program)) all
    by (Inserts stays is) = subst (EachItem CallsNothing) (sym (is program)) all
    by (Takes block types stays makes is) = subst (EachItem CallsNothing) (sym (is program)) all
    by (Switches block is) = subst (λ (r : Request). EachItem CallsNothing (extended program r)) (sym is) all
    by (Assigns variable value is) =
        subst (λ (r : Request). EachItem CallsNothing (extended program r)) (sym is) (with_one program program.current (Assign variable value) all tt)
    by (Uses variable is) =
        subst (λ (r : Request). EachItem CallsNothing (extended program r)) (sym is)
        (with_one (with_inserted program) program.current (Use variable (answer_of program.place 0)) all tt)
    by (Builds entries instruction is) =
        subst (λ (r : Request). EachItem CallsNothing (extended program r)) (sym is)
        (with_one (with_inserted program) program.current (Instruct program.place instruction (result_names program.place instruction)) all
        (none_is (call_shape instruction.operation) (sym (ap builds_no_call is) ∙ none)))
    by (Redirects branch from to stays is) = subst (EachItem CallsNothing) (sym (is program)) (λ block. all_redirected CallsNothing CallsNothing branch from to (λ item calls. calls) (λ place instruction results calls. calls) (program.items block) (all block))

from_program : (program : Program) (script : Script) → build_no_calls script ≡ true → EachItem CallsNothing program → EachItem CallsNothing (fold with_call program script)
from_program program [] none all = all
from_program program (request ∷ script) none all =
    let parts = both (builds_no_call request) (build_no_calls script) none in
    from_program (with_call program request) script parts.1 (with_request program request parts.0 all)

pub nothing_called : (script : Script) → build_no_calls script ≡ true → EachItem CallsNothing (program_of script)
nothing_called script none = from_program empty_program script none (λ block. tt)
