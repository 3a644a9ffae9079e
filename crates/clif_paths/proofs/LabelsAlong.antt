-- In sound tables labels by kind are kept along all edges.
use Rattle.std.proofs.Common.{◌≡◌, ℕ, true, Some, inl, sym, ◌∙◌, ap}
use Rattle.clif_paths.specs.Places.{Place, Arm, Edges}
use Rattle.clif_paths.specs.State.{reads}
use Rattle.clif_paths.specs.Sound.{Allowed}
use Rattle.clif_paths.specs.Blocks.{Blocks, front, sealed_at, state_of}
use Rattle.clif_paths.specs.BlockLaws.{BlocksSound}
use Rattle.clif_paths.specs.ValueLabels.{label_by, HasLabel, LabelsKept}
use Rattle.clif_paths.specs.LabelLaws.{label_or_none, labelling_by}
use Rattle.clif_paths.specs.Runs.{KeepsLabels}
use Rattle.clif_paths.proofs.BlockSteps.{front_join}

-- an edge into the front of a sealed block is a join
edge_join :
    (blocks : Blocks) (edges : Edges) → Allowed (state_of blocks).program edges → (b : ℕ) (arm : Arm) → blocks.sealed b ≡ true →
    arm.target ≡ front b → edges arm ≡ true → blocks.joins arm ≡ true
edge_join blocks edges allowed b arm sealed at e =
    front_join blocks b arm (sym (allowed.known arm (ap (λ p. sealed_at blocks.count blocks.sealed p) at ∙ sealed)) ∙ e) at

pub labels_go_along :
    (blocks : Blocks) → BlocksSound blocks → (of_variable of_name : ℕ → ℕ) →
    ((place : Place) (x n : ℕ) → blocks.assigned place x ≡ Some n → of_name n ≡ of_variable x) →
    ((n x : ℕ) → (blocks.naming n).origin ≡ reads x → of_name n ≡ of_variable x) →
    (edges : Edges) → Allowed (state_of blocks).program edges →
    KeepsLabels edges (state_of blocks).program blocks.function (labelling_by blocks of_variable of_name)
labels_go_along blocks sound of_variable of_name assigned read edges allowed = record {
  assigned_same = assigned;
  read_same = read;
  born_same = λ u n k. ap (λ kind. label_or_none (label_by of_variable of_name kind)) k;
  pending_same = λ u x k. ap (λ kind. label_or_none (label_by of_variable of_name kind)) k;
  argument_same = λ {x} u arm k at e.
      let (b, home, sealed) = sound.labelled.fronts.at_front u k in
      let kept : LabelsKept blocks of_variable of_name =
      sound.labelled.kept of_variable of_name (record { assigned_same = assigned; read_same = λ n y there origin. read n y origin }) in
      let has : HasLabel of_variable of_name blocks.function (blocks.function.argument (blocks.function.resolve u) arm) (of_variable x) =
      kept.arguments u b arm k home (sym at ∙ home) (edge_join blocks edges allowed b arm sealed (sym at ∙ home) e) in
      inl (ap label_or_none has.by_kind ∙ sym (ap (λ kind. label_or_none (label_by of_variable of_name kind)) k));
}
