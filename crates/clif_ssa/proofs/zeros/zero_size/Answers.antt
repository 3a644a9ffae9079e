use Rattle.std.proofs.Common.{◌≡◌, ℕ, ◌∙◌, ap, refl, sym, inl, inr}
use Rattle.std.specs.Prelude.{Option, Some, None}
use Rattle.clif_types.specs.declared.types.«Type».{«Type»}
use Rattle.clif_ssa.specs.declared.zeros.ZeroKind.{ZeroKind}
use Rattle.clif_ssa.specs.declared.zeros.ZeroKind.TheVariants as made
use Rattle.clif_ssa.specs.Zeros.{constant_size, kind_of_zero, zero_size}
use Rattle.clif_ssa.proofs.zeros.zero_size.Goals as goal

by_kind : (ty : «Type») (kind : ZeroKind) (size : Option ℕ) → kind_of_zero ty ≡ kind → size ≡ constant_size kind ty → size ≡ zero_size ty
unfolding zero_size
by_kind ty kind size same is = is ∙ ap (λ (k : ZeroKind). constant_size k ty) (sym same)

pub returns-in-Pooled : goal.returns-in-Pooled
returns-in-Pooled c = by_kind c.args.ty (made.Pooled c.in-Pooled.field-0) _ (sym c.kind_of_zero.ensures ∙ c.in-Pooled.is) (ap Some c.bytes.ensures)

pub returns-in-SplattedPooled : goal.returns-in-SplattedPooled
returns-in-SplattedPooled c =
    by_kind c.args.ty made.SplattedPooled _ (sym c.kind_of_zero.ensures ∙ c.in-SplattedPooled.is) (ap Some c.bytes-in-SplattedPooled.ensures)

pub returns-in-Number : goal.returns-in-Number
returns-in-Number c =
    let is : kind_of_zero c.args.ty ≡ c.kind_of_zero.result = sym c.kind_of_zero.ensures in
    elim c.in-Number.is [
      | inl number ↦ by_kind c.args.ty made.Number None (is ∙ number) refl
      | inr (inl extended) ↦ by_kind c.args.ty made.Extended None (is ∙ extended) refl
      | inr (inr (inl float)) ↦ by_kind c.args.ty (made.Float float.0) None (is ∙ float.1) refl
      | inr (inr (inr splatted)) ↦ by_kind c.args.ty (made.Splatted splatted.0) None (is ∙ splatted.1) refl
    ]
