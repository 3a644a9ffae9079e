use Rattle.std.proofs.Common.{◌≡◌, ◌+◌, ◌<◌, ◌∙◌, ◌++◌, ◌∷◌, ◌-◌, [], ℕ, Bool, take, append-nil, List, true, false, length, reverse, ap, sym, subst, refl, IfSome, set, arith, Option, Some, None, replicate}
use Rattle.clif_safepoints.specs.declared.graph.Visit.{Visit}
use Rattle.clif_safepoints.specs.declared.graph.Visit.TheVariants.{Enter, Leave}
use Rattle.clif_safepoints.specs.Graph.{IsOrder, leads_to}
use Rattle.clif_number_sets.specs.Sets.{is_in}
use Rattle.clif_safepoints.specs.Visits.{entered}
use Rattle.clif_safepoints.proofs.Rows.{row_at}
use Rattle.clif_safepoints.proofs.Searching.{IsWalking, walk_end, walk_enter, walk_leave, walk_none, walk_skip, walk_start}
use Rattle.clif_safepoints.proofs.Visits.{enter_inside, unseen, visits_fewer}
use Rattle.clif_safepoints.proofs.graph.post_order.Goals as goal
use Rattle.clif_safepoints.proofs.graph.post_order.Goals.{In-Enter, In-Leave, In_ok-enter_each-in-Enter}

pub returns-in_default-clause-ok : goal.returns-in_default-clause-ok
returns-in_default-clause-ok c = subst (λ order. IsOrder c.args.successors.now c.args.entry order) (sym c.new-order.ensures.items) (walk_none c.args.successors.now c.args.entry c.in_default.is)

-- what holds of an entry that is there
IfSome-at : (o : Option ℕ) (x : ℕ) (P : ℕ → Type 0) → o ≡ Some x → IfSome o P → P x
IfSome-at None x P is h = let both : None ≡ Some x = is in cc
IfSome-at (Some y) x P is h = subst P (let e : y ≡ x = cc in e) h

pub loop-visit-init : goal.loop-visit-init
loop-visit-init c =
    let all : IsWalking c.args.successors.now c.args.entry (replicate (length c.args.successors.now) false) (Enter c.in-Some.entry ∷ []) [] =
    walk_start c.args.successors.now c.args.entry c.in-Some.entry c.in-Some.is
    (IfSome-at c.args.entry c.in-Some.entry (λ b. b < length c.args.successors.now) c.in-Some.is c.requires.entry_exists) in
    let visits : c.push.new.self.items ≡ Enter c.in-Some.entry ∷ [] = c.in_ok-push.ensures.items ∙ ap (λ (xs : List Visit). xs ++ Enter c.in-Some.entry ∷ []) c.new-visits.ensures.items in
    let P : List Bool → List Visit → List ℕ → Type 0 = λ seen visits order. IsWalking c.args.successors.now c.args.entry seen visits order in
    let with_seen : P c.in_ok-seen.seen (Enter c.in-Some.entry ∷ []) [] = subst (λ seen. P seen (Enter c.in-Some.entry ∷ []) []) (sym c.in_ok-seen.ensures.ok) all in
    let with_visits : P c.in_ok-seen.seen c.push.new.self.items [] = subst (λ visits. P c.in_ok-seen.seen visits []) (sym visits) with_seen in
    subst (λ order. P c.in_ok-seen.seen c.push.new.self.items order) (sym c.new-order.ensures.items) with_visits

-- the visits before the last one was taken
leaves : (c : In-Leave) → c.loop-visit.visits.items ≡ c.pop.new.self.items ++ Leave c.in-Leave.block ∷ []
leaves c = c.in-Some-pop.ensures.items ∙ ap (λ v. c.pop.new.self.items ++ v ∷ []) c.in-Leave.is

enters : (c : In-Enter) → c.loop-visit.visits.items ≡ c.pop.new.self.items ++ Enter c.in-Enter.block ∷ []
enters c = c.in-Some-pop.ensures.items ∙ ap (λ v. c.pop.new.self.items ++ v ∷ []) c.in-Enter.is

pub loop-visit-preserved-in-Continue-branch-3 : goal.loop-visit-preserved-in-Continue-branch-3
loop-visit-preserved-in-Continue-branch-3 c =
    let P : List ℕ → Type 0 = λ order. IsWalking c.args.successors.now c.args.entry c.loop-visit.seen c.pop.new.self.items order in
    let before : IsWalking c.args.successors.now c.args.entry c.loop-visit.seen (c.pop.new.self.items ++ Leave c.in-Leave.block ∷ []) c.loop-visit.order.items =
    subst (λ visits. IsWalking c.args.successors.now c.args.entry c.loop-visit.seen visits c.loop-visit.order.items)
    (leaves (goal.at.loop-visit-preserved-in-Continue-branch-3 c).In-Leave) c.loop-visit.invariant in
    subst P (sym c.in_ok-push-in-Leave.ensures.items)
    (walk_leave c.args.successors.now c.args.entry c.loop-visit.seen c.pop.new.self.items c.loop-visit.order.items c.in-Leave.block before)

-- the state as the block is entered, which is there
entering_now : (c : In-Enter) → IsWalking c.args.successors.now c.args.entry c.loop-visit.seen (c.pop.new.self.items ++ Enter c.in-Enter.block ∷ []) c.loop-visit.order.items
entering_now c =
    subst (λ visits. IsWalking c.args.successors.now c.args.entry c.loop-visit.seen visits c.loop-visit.order.items) (enters c) c.loop-visit.invariant

there : (c : In-Enter) → c.in-Enter.block < length c.args.successors.now
there c = enter_inside c.pop.new.self.items c.in-Enter.block (entering_now c).0

-- its number, among those of the graph and of the marks
numbered : (number block count marks : ℕ) → number ≡ block → block < count → marks ≡ count → number < marks
numbered number block count marks same inside size = omega arith

pub contains-requires : goal.contains-requires
contains-requires c =
    numbered c.index-number.result c.in-Enter.block (length c.args.successors.now) (length c.loop-visit.seen) c.index-number.ensures.place
    (there (goal.at.contains-requires c).In-Enter) c.loop-visit.invariant.0.size

pub insert-requires : goal.insert-requires
insert-requires c =
    numbered c.index-number.result c.in-Enter.block (length c.args.successors.now) (length c.loop-visit.seen) c.index-number.ensures.place
    (there (goal.at.insert-requires c).In-Enter) c.loop-visit.invariant.0.size

pub bounds-successors-number : goal.bounds-successors-number
bounds-successors-number c =
    numbered c.index-number.result c.in-Enter.block (length c.args.successors.now) (length c.args.successors.now) c.index-number.ensures.place
    (there (goal.at.bounds-successors-number c).In-Enter) refl

-- the marks and the visits after the block was entered
marks : (c : In_ok-enter_each-in-Enter) → c.insert.new.self ≡ set c.loop-visit.seen c.in-Enter.block true
marks c = c.insert.ensures ∙ ap (λ n. set c.loop-visit.seen n true) c.index-number.ensures.place

visits_now : (c : In_ok-enter_each-in-Enter) → c.in-Enter.block < length c.args.successors.now
    → c.enter_each.new.visits.items ≡ (c.pop.new.self.items ++ Leave c.in-Enter.block ∷ []) ++ entered (reverse (leads_to c.args.successors.now c.in-Enter.block))
visits_now c inside =
    c.in_ok-enter_each-in-Enter.ensures.ok
    ∙ ap (λ (xs : List Visit). xs ++ entered (reverse c.as_slice.result.now)) c.in_ok-push-in-Enter.ensures.items
    ∙ ap (λ (xs : List ℕ). (c.pop.new.self.items ++ Leave c.in-Enter.block ∷ []) ++ entered (reverse xs))
    (c.as_slice.ensures
    ∙ row_at c.args.successors.now c.index-number.result c.in-Enter.block c.index-successors-number.result [] c.index-successors-number.is c.index-number.ensures.place inside)

pub loop-visit-smaller-in-Continue-branch-5 : goal.loop-visit-smaller-in-Continue-branch-5
loop-visit-smaller-in-Continue-branch-5 c =
    let inside = there (goal.at.loop-visit-smaller-in-Continue-branch-5 c).In-Enter in
    let fresh : is_in c.loop-visit.seen c.in-Enter.block ≡ false = ap (is_in c.loop-visit.seen) (sym c.index-number.ensures.place) ∙ sym c.if-not-contains.ensures in
    let less = visits_fewer c.args.successors.now c.loop-visit.seen c.pop.new.self.items c.in-Enter.block inside c.loop-visit.invariant.0.size fresh in
    let Less : List Bool → List Visit → List Visit → Type 0 = λ seen new old.
    unseen c.args.successors.now seen + length new < unseen c.args.successors.now c.loop-visit.seen + length old in
    let with_seen : Less c.insert.new.self ((c.pop.new.self.items ++ Leave c.in-Enter.block ∷ []) ++ entered (reverse (leads_to c.args.successors.now c.in-Enter.block))) (c.pop.new.self.items ++ Enter c.in-Enter.block ∷ []) =
    subst (λ seen. Less seen ((c.pop.new.self.items ++ Leave c.in-Enter.block ∷ []) ++ entered (reverse (leads_to c.args.successors.now c.in-Enter.block))) (c.pop.new.self.items ++ Enter c.in-Enter.block ∷ [])) (sym (marks c)) less in
    let with_new : Less c.insert.new.self c.enter_each.new.visits.items (c.pop.new.self.items ++ Enter c.in-Enter.block ∷ []) =
    subst (λ new. Less c.insert.new.self new (c.pop.new.self.items ++ Enter c.in-Enter.block ∷ [])) (sym (visits_now c inside)) with_seen in
    subst (λ old. Less c.insert.new.self c.enter_each.new.visits.items old) (sym (enters (goal.at.loop-visit-smaller-in-Continue-branch-5 c).In-Enter)) with_new

pub loop-visit-preserved-in-Continue-branch-5 : goal.loop-visit-preserved-in-Continue-branch-5
loop-visit-preserved-in-Continue-branch-5 c =
    let before = entering_now (goal.at.loop-visit-preserved-in-Continue-branch-5 c).In-Enter in
    let inside = there (goal.at.loop-visit-preserved-in-Continue-branch-5 c).In-Enter in
    let fresh : is_in c.loop-visit.seen c.in-Enter.block ≡ false = ap (is_in c.loop-visit.seen) (sym c.index-number.ensures.place) ∙ sym c.if-not-contains.ensures in
    let after = walk_enter c.args.successors.now c.args.entry c.loop-visit.seen c.pop.new.self.items c.loop-visit.order.items c.in-Enter.block c.requires.closed fresh before in
    let State : List Bool → List Visit → Type 0 = λ seen visits. IsWalking c.args.successors.now c.args.entry seen visits c.loop-visit.order.items in
    subst (λ visits. State c.insert.new.self visits) (sym (visits_now c inside))
    (subst (λ seen. State seen ((c.pop.new.self.items ++ Leave c.in-Enter.block ∷ []) ++ entered (reverse (leads_to c.args.successors.now c.in-Enter.block)))) (sym (marks c)) after)

pub loop-visit-preserved : goal.loop-visit-preserved
loop-visit-preserved c =
    let known : is_in c.loop-visit.seen c.in-Enter.block ≡ true = ap (is_in c.loop-visit.seen) (sym c.index-number.ensures.place) ∙ sym c.if-not-contains.ensures in
    walk_skip c.args.successors.now c.args.entry c.loop-visit.seen c.pop.new.self.items c.loop-visit.order.items c.in-Enter.block known
    (entering_now (goal.at.loop-visit-preserved c).In-Enter)

-- nothing is left where nothing was taken
none_left : (items rest : List Visit) (len : ℕ) → items ≡ rest ++ [] → rest ≡ take (len - 1) items → len ≡ 0 → items ≡ []
none_left items rest len is front none =
    is ∙ append-nil rest ∙ front ∙ ap (λ n. take n items) (let e : len - 1 ≡ 0 = omega (arith, none) in e)

pub returns-clause-ok : goal.returns-clause-ok
returns-clause-ok c =
    let visits : c.loop-visit.visits.items ≡ [] = none_left c.loop-visit.visits.items c.pop.new.self.items c.loop-visit.visits.len c.in_default-pop.ensures.items c.in_default-pop.ensures.rest c.in_default-pop.ensures.cases.0 in
    walk_end c.args.successors.now c.args.entry c.loop-visit.seen c.loop-visit.order.items c.in-Some.entry c.in-Some.is
    (subst (λ visits. IsWalking c.args.successors.now c.args.entry c.loop-visit.seen visits c.loop-visit.order.items) visits c.loop-visit.invariant)
