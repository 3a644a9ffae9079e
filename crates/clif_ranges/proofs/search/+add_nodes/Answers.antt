use Rattle.std.proofs.Common.{◌≡◌, ◌<◌, length, [], ◌∷◌, get_or, refl, ap, sym, subst, arith, rules, Result, Ok, Err}
use Rattle.std.specs.Prelude.{IfOk, Contains}
use Rattle.std.proofs.lemmas.List.Elements.{Contains-get_or}
use Rattle.clif_ranges.specs.declared.ranges.CaseRange.{CaseRange}
use Rattle.clif_ranges.specs.Search.{AddsNodes, AreSeparate}
use Rattle.clif_ranges.proofs.Searching.{line_adds, split_adds}
use Rattle.clif_ranges.proofs.Separate.{high_begins, higher_part, low_ends, lower_part}
use Rattle.clif_ranges.proofs.search.+add_nodes.Goals as goal

-- what holds of what a call answers holds of it where it is answered
answered : {A E : Type 0} (P Q : A → Type 0) (told : Result A E) → ((x : A) → P x → Q x) → IfOk told P → IfOk told Q
answered P Q (Ok x) each is = each x is
answered P Q (Err e) each is = tt

pub add_nodes-requires : goal.add_nodes-requires
add_nodes-requires t c =
    let parts = subst AreSeparate c.split_at.ensures.by_index.0 c.requires.separate in
    let d = c.decreases in
    (omega (arith, c.decreases, c.split_at.ensures.back_len, c.if-ranges-gt-IN_TURN.true), (higher_part c.split_at.result.0.now c.split_at.result.1.now parts, (omega (arith, c.split_at.ensures.back_len), (omega arith, omega (arith, c.split_at.ensures.back_len, c.requires.room)))))

pub add_nodes-requires-then-ranges-gt-IN_TURN : goal.add_nodes-requires-then-ranges-gt-IN_TURN
add_nodes-requires-then-ranges-gt-IN_TURN t c =
    let parts = subst AreSeparate c.split_at.ensures.by_index.0 c.requires.separate in (
      omega (arith, c.decreases, c.split_at.ensures.back_len, c.split_at.ensures.front_len, c.if-ranges-gt-IN_TURN.true),
      (
        lower_part c.split_at.result.0.now c.split_at.result.1.now parts,
        (
          omega (arith, c.split_at.ensures.front_len, c.if-ranges-gt-IN_TURN.true),
          (
            omega (arith, c.in_ok-behind.ensures.ok.rises),
            omega (arith, c.in_ok-behind.ensures.ok.few, c.split_at.ensures.back_len, c.split_at.ensures.front_len, c.requires.room),
          ),
        ),
      ),
    )

pub returns-then-ranges-gt-IN_TURN-clause-ok : goal.returns-then-ranges-gt-IN_TURN-clause-ok
returns-then-ranges-gt-IN_TURN-clause-ok t c =
    let low = c.split_at.result.0.now in
    let high = c.split_at.result.1.now in
    let parts = subst AreSeparate c.split_at.ensures.by_index.0 c.requires.separate in
    let range : CaseRange = get_or high 0 c.index-high-0.result in
    let is : range ≡ get_or high 0 range = ap (get_or high 0) c.index-high-0.is in
    let some : 0 < length high = omega (arith, c.split_at.ensures.back_len, c.split_at.ensures.front_len, c.if-ranges-gt-IN_TURN.true) in
    answered _ _ c.add_nodes-then-ranges-gt-IN_TURN.result
    (λ behind lows.
    subst (λ ranges. AddsNodes ranges c.args.next c.args.number c.args.nodes.now.items c.add_nodes-then-ranges-gt-IN_TURN.new.nodes.items behind) (sym c.split_at.ensures.by_index.0)
    (split_adds low high range.first c.args.next c.args.number c.in_ok-behind.behind behind c.args.nodes.now.items c.push.new.self.items c.add_nodes.new.nodes.items
    c.add_nodes-then-ranges-gt-IN_TURN.new.nodes.items c.requires.before (low_ends low high range some is parts) (high_begins high range some is (higher_part low high parts))
    (omega (arith, c.split_at.ensures.back_len, c.split_at.ensures.front_len, c.if-ranges-gt-IN_TURN.true))
    (omega (arith, c.split_at.ensures.back_len, c.split_at.ensures.front_len))
    (omega (arith, c.split_at.ensures.back_len, c.split_at.ensures.front_len))
    (range, subst (Contains high) (sym is) (Contains-get_or high 0 range some), refl) c.in_ok-push.ensures.items c.in_ok-behind.ensures.ok lows))
    c.add_nodes-then-ranges-gt-IN_TURN.ensures.ok

pub add_nodes-requires-2 : goal.add_nodes-requires-2
add_nodes-requires-2 t c =
    let last = c.in-Some.ensures.cases in
    let parts = subst AreSeparate last.0 c.requires.separate in (
      omega (arith, c.decreases, last.1),
      (
        lower_part c.in-Some.lower.now (c.in-Some.range.now ∷ []) parts,
        (
          search rules,
          (
            omega (arith, c.in_ok-behind-2.ensures.ok.rises),
            omega (arith, c.in_ok-behind-2.ensures.ok.few, last.1, c.requires.room),
          ),
        ),
      ),
    )

pub returns-clause-ok : goal.returns-clause-ok
returns-clause-ok t c =
    let last = c.in-Some.ensures.cases in
    let lower = c.in-Some.lower.now in
    let range = c.in-Some.range.now in
    let parts = subst AreSeparate last.0 c.requires.separate in
    answered _ _ c.add_nodes-2.result
    (λ behind lows.
    subst (λ ranges. AddsNodes ranges c.args.next c.args.number c.args.nodes.now.items c.add_nodes-2.new.nodes.items behind) (sym last.0)
    (line_adds lower range c.args.next c.args.number c.in_ok-behind-2.behind behind c.args.nodes.now.items c.add_range-2.new.nodes.items c.add_nodes-2.new.nodes.items
    (search rules) (omega (arith, last.1, c.if-ranges-gt-IN_TURN.false))
    (low_ends lower (range ∷ []) range (omega arith) refl parts) c.in_ok-behind-2.ensures.ok lows))
    c.add_nodes-2.ensures.ok
