-- What a builder stands for behind the calls of a table.
use Rattle.std.proofs.Common.{◌≡◌, ℕ, suc, List, [], ◌∷◌, ◌++◌, length, map, refl, sym, ◌∙◌, ap, subst, arith, append_assoc, append-nil}
use Rattle.std.specs.Prelude.{All, Contains, Ok}
use Rattle.std.proofs.lemmas.List.{length-append, length-map, map-append}
use Rattle.clif_types.specs.Signature.{SignatureShape}
use Rattle.clif_types.specs.declared.types.«Type».TheVariants as type
use Rattle.clif_instructions.specs.declared.block_call.BlockCall.{BlockCall}
use Rattle.clif_inst_builder.specs.Shapes as shapes
use Rattle.clif_meaning.specs.Acceptance.{table_branch}
use Rattle.clif_meaning.specs.Instruction.{Edge}
use Rattle.clif_meaning.specs.Name.{Name}
use Rattle.clif_meaning.specs.Request.{AnsweredCall, Build, MakeEdge, MakeJumpTable, Request, ServedBy, Script, script_of}
use Rattle.clif_builder.specs.declared.builder.FunctionBuilder.{FunctionBuilder}
use Rattle.clif_builder.specs.Built.{Builds, numbers_of}
use Rattle.clif_builder.specs.Calls.{answered}
use Rattle.clif_builder.specs.Ledger.{NamesEdges, NamesValue, ledger_of}
use Rattle.clif_builder.specs.LedgerLaws.{LedgerIsReadByNumber, TableCallsAddNothing}
use Rattle.clif_builder.specs.StandsFor.{StandsFor}
use Rattle.clif_builder.proofs.LedgerShaped.{table-shape}
use Rattle.clif_switch_calls.specs.SwitchCalls.{Switched, bare_edge}
use Rattle.clif_switch.specs.Emission.{StandsAt, StandsOn, bare_to}
use Rattle.clif_switch.proofs.Names.{stands_behind}

-- the edges and the table, as calls
abbrev edge_of : Name → AnsweredCall
edge_of target = answered (MakeEdge (bare_edge target)) (0 ∷ [])

abbrev pub edge_requests : List Name → Script
edge_requests targets = map (λ target. MakeEdge (bare_edge target)) targets

edges_asked : (targets : List Name) → script_of (map edge_of targets) ≡ edge_requests targets
edges_asked [] = refl
edges_asked (target ∷ targets) = ap (λ (script : Script). MakeEdge (bare_edge target) ∷ script) (edges_asked targets)

module _ {R : Type 0} (law : TableCallsAddNothing) (signature : SignatureShape) (b : FunctionBuilder R) where
  edges_stand : (calls : List AnsweredCall) (targets : List Name) → StandsFor signature calls b → StandsFor signature (calls ++ map edge_of targets) b
  edges_stand calls [] stands = subst (λ (list : List AnsweredCall). StandsFor signature list b) (sym (append-nil calls)) stands
  edges_stand calls (target ∷ targets) stands =
      subst (λ (list : List AnsweredCall). StandsFor signature list b) (append_assoc calls (edge_of target ∷ []) (map edge_of targets))
      (edges_stand (calls ++ edge_of target ∷ []) targets (law.edge signature calls b.func.now b.ctx.now.parts b.position (bare_edge target) 0 stands))

module _ {R : Type 0} (reads : LedgerIsReadByNumber) (law : TableCallsAddNothing) {signature : SignatureShape} {calls : List AnsweredCall} {s : Switched} {x otherwise : ℕ} {cases : List ℕ} {plain : Script} {old : FunctionBuilder R}
    (at : StandsAt signature calls s x otherwise cases plain old) where
  -- edges and a table were made
  pub table_stood : (new : FunctionBuilder R) → ((sig : SignatureShape) (list : List AnsweredCall) → StandsFor sig list old → StandsFor sig list new) → (targets : List Name) (default : Name) (entries : List Name)
      → StandsOn at (edge_requests targets ++ MakeJumpTable default entries ∷ []) new
  table_stood new stays targets default entries =
      stands_behind reads at (map edge_of targets ++ table ∷ []) (edge_requests targets ++ MakeJumpTable default entries ∷ []) new
      (map-append (λ (call : AnsweredCall). call.request) (map edge_of targets) (table ∷ []) ∙ ap (λ (script : Script). script ++ MakeJumpTable default entries ∷ []) (edges_asked targets))
      (subst (λ (list : List AnsweredCall). StandsFor signature list new) (append_assoc (calls ++ at.added) (map edge_of targets) (table ∷ []))
      (law.table signature ((calls ++ at.added) ++ map edge_of targets) new.func.now new.ctx.now.parts new.position default entries number refl (edges_stand law signature new (calls ++ at.added) targets (stays signature (calls ++ at.added) at.stands))))
    where
      number : ℕ
      number = length (ledger_of ((calls ++ at.added) ++ map edge_of targets)).jump_tables

      table : AnsweredCall
      table = answered (MakeJumpTable default entries) (number ∷ [])

  -- the branch by a table was built
  pub table_branch_made : (between new : FunctionBuilder R) (name : Name) (v tables inst table : ℕ) (edges : List (Edge Name Name)) (held : List BlockCall) → NamesValue (calls ++ at.added) name v → NamesEdges (calls ++ at.added) edges held
      → ((sig : SignatureShape) (list : List AnsweredCall) → StandsFor sig list old → StandsFor sig list between) → Builds between new (shapes.branch_table v held) type.Invalid (Ok inst)
      → StandsOn at (Build (ServedBy tables ∷ []) (table_branch name edges) ∷ []) new
  table_branch_made between new name v tables inst table edges held names named stays builds =
      stands_behind reads at (answered (Build (ServedBy tables ∷ []) (table_branch name edges)) (numbers_of new inst) ∷ []) (Build (ServedBy tables ∷ []) (table_branch name edges) ∷ []) new refl
      (builds.stands signature (calls ++ at.added) (ServedBy tables ∷ []) (table_branch name edges) (stays signature (calls ++ at.added) at.stands) (table-shape (calls ++ at.added) between.func.now name v edges held names named))

  -- names of the blocks of cases lead along bare edges
  pub cases_edges : (items : List ℕ) → All (Contains cases) items → NamesEdges (calls ++ at.added) (map bare_edge (map s.named items)) (map bare_to items)
  cases_edges [] are = tt
  cases_edges (block ∷ items) are =
      (record { target = at.cases_named block (are 0 block (omega arith)); arguments = tt }, cases_edges items (λ k d below. are (suc k) d (omega (arith, below))))

  pub all_edges : (items : List ℕ) → All (Contains cases) items → NamesEdges (calls ++ at.added) (map bare_edge (s.otherwise ∷ map s.named items)) (map bare_to (otherwise ∷ items))
  all_edges items are = (record { target = at.otherwise_named; arguments = tt }, cases_edges items are)

-- how many calls they are
pub table_length : (targets : List Name) (request : Request) → length (edge_requests targets ++ request ∷ []) ≡ suc (length targets)
table_length targets request =
    let whole = length-append (edge_requests targets) (request ∷ []) in let edges = length-map targets (λ (target : Name). MakeEdge (bare_edge target)) in omega (arith, whole, edges)
