-- Each move of the look-up keeps what stands on the stack.
use Rattle.std.proofs.Common.{◌≡◌, ◌≢◌, ℕ, true, Option, None, Some, List, [], ◌∷◌, ◌⊎◌, inl, inr, refl, sym, ◌∙◌, ap, subst, length, ◌+◌, suc, arith, zero-add}
use Rattle.clif_paths.specs.Places.{start, Arm}
use Rattle.clif_paths.specs.State.{pending, complete, zero_of, Definition}
use Rattle.clif_paths.specs.Steps.{updated, aliased}
use Rattle.clif_paths.specs.Blocks.{Blocks, front, last_place, Knows, with_record, Carries, KnownSomewhere, IsChain, with_chain, with_parameter, CanAddParameter, WaitsIn, with_filled, with_dropped, with_zero_in}
use Rattle.clif_paths.specs.BlockLaws.{BlocksSound}
use Rattle.clif_paths.specs.LookUp.{Frame, back_onto, AllKnow, FrameFits, NotFor, Expects, GoesTo, AtRest, Finds, Delivers, last_of, Unrecorded, InList, Paired, LeavesOneOf}
use Rattle.clif_paths.proofs.Tables.{updated-same, updated-other, updated_cases, aliased_cases}
use Rattle.clif_paths.proofs.Links.{same_ends}
use Rattle.clif_paths.proofs.Labelled.{front_written}
use Rattle.clif_paths.proofs.BlockSteps.{block_record_new, chain_keeps, parameter_keeps, filled_keeps, dropped_keeps, zero_in_keeps, undefined_keeps}

-- What growing tables keep ----------------------------------------------------------------------------------------

-- records of the variable stay, and equal ends stay equal
record Keeps (blocks blocks' : Blocks) (x : ℕ) : Type 0 where
  pub recorded_kept : (b v : ℕ) → blocks.recorded b x ≡ Some v → blocks'.recorded b x ≡ Some v
  pub ends_kept : (v w : ℕ) → blocks.function.resolve v ≡ blocks.function.resolve w → blocks'.function.resolve v ≡ blocks'.function.resolve w

-- a parameter that waits goes on waiting
record KeepsWaiting (blocks blocks' : Blocks) (x v : ℕ) : Type 0 where
  pub waits : (b : ℕ) → WaitsIn blocks b x v → blocks.function.resolve v ≡ v → WaitsIn blocks' b x v
  pub no_alias : (b : ℕ) → WaitsIn blocks b x v → blocks.function.resolve v ≡ v → blocks'.function.resolve v ≡ v

KeepsFrames : Blocks → Blocks → ℕ → List Frame → Type 0
KeepsFrames blocks blocks' x [] = Unit {0}
KeepsFrames blocks blocks' x (f ∷ frames) = KeepsWaiting blocks blocks' x f.parameter × KeepsFrames blocks blocks' x frames

keeps_trans : (blocks blocks' blocks'' : Blocks) (x : ℕ) → Keeps blocks blocks' x → Keeps blocks' blocks'' x → Keeps blocks blocks'' x
keeps_trans blocks blocks' blocks'' x first second = record {
  recorded_kept = λ b v e. second.recorded_kept b v (first.recorded_kept b v e);
  ends_kept = λ v w e. second.ends_kept v w (first.ends_kept v w e);
}

waiting_trans : (blocks blocks' blocks'' : Blocks) (x v : ℕ) → KeepsWaiting blocks blocks' x v → KeepsWaiting blocks' blocks'' x v → KeepsWaiting blocks blocks'' x v
waiting_trans blocks blocks' blocks'' x v first second = record {
  waits = λ b w e. second.waits b (first.waits b w e) (first.no_alias b w e);
  no_alias = λ b w e. second.no_alias b (first.waits b w e) (first.no_alias b w e);
}

frames_trans :
    (blocks blocks' blocks'' : Blocks) (x : ℕ) (frames : List Frame) → KeepsFrames blocks blocks' x frames → KeepsFrames blocks' blocks'' x frames →
    KeepsFrames blocks blocks'' x frames
unfolding KeepsFrames
frames_trans blocks blocks' blocks'' x [] first second = tt
frames_trans blocks blocks' blocks'' x (f ∷ frames) first second =
    (waiting_trans blocks blocks' blocks'' x f.parameter first.0 second.0, frames_trans blocks blocks' blocks'' x frames first.1 second.1)

knows_kept : (blocks blocks' : Blocks) (b x r : ℕ) → Keeps blocks blocks' x → Knows blocks b x r → Knows blocks' b x r
knows_kept blocks blocks' b x r keeps knows = record {
  value = knows.value;
  is_recorded = keeps.recorded_kept b knows.value knows.is_recorded;
  resolves = keeps.ends_kept knows.value r knows.resolves;
}

all_kept : (blocks blocks' : Blocks) (x : ℕ) (bs rs : List ℕ) → Keeps blocks blocks' x → AllKnow blocks x bs rs → AllKnow blocks' x bs rs
all_kept blocks blocks' x [] [] keeps all = tt
all_kept blocks blocks' x [] (r ∷ rs) keeps all = absurd all
all_kept blocks blocks' x (b ∷ bs) [] keeps all = absurd all
all_kept blocks blocks' x (b ∷ bs) (r ∷ rs) keeps all = (knows_kept blocks blocks' b x r keeps all.0, all_kept blocks blocks' x bs rs keeps all.1)

fits_kept : (blocks blocks' : Blocks) (x : ℕ) (f : Frame) → Keeps blocks blocks' x → KeepsWaiting blocks blocks' x f.parameter → FrameFits blocks x f → FrameFits blocks' x f
fits_kept blocks blocks' x f keeps waiting fits = record {
  waits = waiting.waits f.block fits.waits fits.no_alias;
  no_alias = waiting.no_alias f.block fits.waits fits.no_alias;
  known = all_kept blocks blocks' x f.done f.results keeps fits.known;
}

expects_kept :
    (blocks blocks' : Blocks) (predecessors : ℕ → List ℕ) (x : ℕ) (first : Option ℕ) (frames : List Frame) (b : ℕ) →
    Keeps blocks blocks' x → KeepsFrames blocks blocks' x frames →
    Expects blocks predecessors x first frames b → Expects blocks' predecessors x first frames b
unfolding KeepsFrames
expects_kept blocks blocks' predecessors x first [] b keeps waiting expects = expects
expects_kept blocks blocks' predecessors x first (f ∷ frames) b keeps waiting expects =
    let deeper : (c : ℕ) → Expects blocks predecessors x first frames c → Expects blocks' predecessors x first frames c =
    λ c e. expects_kept blocks blocks' predecessors x first frames c keeps waiting.1 e in
    (fits_kept blocks blocks' x f keeps waiting.0 expects.0, expects.1, expects.2, below expects.3 deeper)
  where
    below :
        ((frames ≡ []) × (first ≡ None)) ⊎ ((c : ℕ) × (Knows blocks c x f.parameter) × (Expects blocks predecessors x first frames c)) →
        ((c : ℕ) → Expects blocks predecessors x first frames c → Expects blocks' predecessors x first frames c) →
        ((frames ≡ []) × (first ≡ None)) ⊎ ((c : ℕ) × (Knows blocks' c x f.parameter) × (Expects blocks' predecessors x first frames c))
    below (inl none) deeper = inl none
    below (inr (c, knows, expects)) deeper = inr (c, knows_kept blocks blocks' c x f.parameter keeps knows, deeper c expects)

goes_kept :
    (blocks blocks' : Blocks) (predecessors : ℕ → List ℕ) (x : ℕ) (first : Option ℕ) (frames : List Frame) (r : ℕ) →
    Keeps blocks blocks' x → KeepsFrames blocks blocks' x frames →
    GoesTo blocks predecessors x first frames r → GoesTo blocks' predecessors x first frames r
goes_kept blocks blocks' predecessors x first frames r keeps waiting (inl none) = inl none
goes_kept blocks blocks' predecessors x first frames r keeps waiting (inr (c, knows, expects)) =
    inr (c, knows_kept blocks blocks' c x r keeps knows, expects_kept blocks blocks' predecessors x first frames c keeps waiting expects)

-- Results ---------------------------------------------------------------------------------------------------------

pushed :
    (blocks : Blocks) (predecessors : ℕ → List ℕ) (x : ℕ) (first : Option ℕ) (f : Frame) (frames : List Frame) (b r : ℕ) →
    Expects blocks predecessors x first (f ∷ frames) b → Knows blocks b x r →
    AtRest blocks predecessors x first (record f { done = b ∷ f.done; results = r ∷ f.results }) frames
pushed blocks predecessors x first f frames b r expects knows = record {
  fits = record { waits = expects.0.waits; no_alias = expects.0.no_alias; known = (knows, expects.0.known) };
  all = expects.1;
  apart = expects.2;
  below = expects.3;
}

no_frames : (f : Frame) (frames : List Frame) → f ∷ frames ≢ []
no_frames f frames e = cc

pushed_by :
    (blocks : Blocks) (predecessors : ℕ → List ℕ) (x : ℕ) (first : Option ℕ) (f : Frame) (frames : List Frame) (r : ℕ) →
    GoesTo blocks predecessors x first (f ∷ frames) r →
    (b : ℕ) × AtRest blocks predecessors x first (record f { done = b ∷ f.done; results = r ∷ f.results }) frames
pushed_by blocks predecessors x first f frames r (inl none) = absurd (no_frames f frames none.0)
pushed_by blocks predecessors x first f frames r (inr (b, knows, expects)) = (b, pushed blocks predecessors x first f frames b r expects knows)

pub result_is_pushed :
    (blocks : Blocks) (predecessors : ℕ → List ℕ) (x : ℕ) (first : Option ℕ) (f : Frame) (frames : List Frame) (r : ℕ) →
    Delivers blocks predecessors x first (f ∷ frames) r →
    (b : ℕ) × AtRest blocks predecessors x first (record f { done = b ∷ f.done; results = r ∷ f.results }) frames
result_is_pushed blocks predecessors x first f frames r delivers = pushed_by blocks predecessors x first f frames r delivers.goes

answers_by :
    (blocks : Blocks) (predecessors : ℕ → List ℕ) (x block r : ℕ) → GoesTo blocks predecessors x (Some block) [] r → Knows blocks block x r
answers_by blocks predecessors x block r (inl none) = let clash : Some block ≡ None = none.1 in absurd cc
answers_by blocks predecessors x block r (inr (c, knows, at)) =
    let both : Some block ≡ Some c = at in
    let same : c ≡ block = cc in
    subst (λ b. Knows blocks b x r) same knows

pub last_result_answers :
    (blocks : Blocks) (predecessors : ℕ → List ℕ) (x block r : ℕ) → Delivers blocks predecessors x (Some block) [] r → Knows blocks block x r
last_result_answers blocks predecessors x block r delivers = answers_by blocks predecessors x block r delivers.goes

pub found_is_delivered :
    (blocks : Blocks) (predecessors : ℕ → List ℕ) (x : ℕ) (first : Option ℕ) (frames : List Frame) (b r : ℕ) →
    Finds blocks predecessors x first frames b r → Delivers blocks predecessors x first frames r
found_is_delivered blocks predecessors x first frames b r finds = record { sound = finds.sound; goes = inr (b, finds.knows, finds.expects) }

pub next_is_expected :
    (blocks : Blocks) (predecessors : ℕ → List ℕ) (x : ℕ) (first : Option ℕ) (f : Frame) (frames : List Frame) (b : ℕ) (todo : List ℕ) →
    f.todo ≡ b ∷ todo → AtRest blocks predecessors x first f frames → Expects blocks predecessors x first (record f { todo = todo } ∷ frames) b
next_is_expected blocks predecessors x first f frames b todo e rest = (
  record { waits = rest.fits.waits; no_alias = rest.fits.no_alias; known = rest.fits.known },
  rest.all ∙ ap (λ t. back_onto f.done t) e,
  rest.apart,
  rest.below,
)

pub sealing_begins : (blocks : Blocks) (predecessors : ℕ → List ℕ) (x v : ℕ) → BlocksSound blocks → Delivers blocks predecessors x None [] v
sealing_begins blocks predecessors x v sound = record { sound = sound; goes = inl (refl, refl) }

pub frame_is_pushed :
    (blocks : Blocks) (predecessors : ℕ → List ℕ) (x : ℕ) (first : Option ℕ) (frames : List Frame) (block v : ℕ) →
    Delivers blocks predecessors x first frames v → WaitsIn blocks block x v → blocks.function.resolve v ≡ v → NotFor v frames →
    AtRest blocks predecessors x first (record { parameter = v; block = block; done = []; results = []; todo = predecessors block }) frames
frame_is_pushed blocks predecessors x first frames block v delivers waits no_alias apart = record {
  fits = record { waits = waits; no_alias = no_alias; known = tt };
  all = refl;
  apart = apart;
  below = delivers.goes;
}

-- Records along a chain -------------------------------------------------------------------------------------------

recorded_anew :
    (blocks : Blocks) (b x v c w : ℕ) → ((u : ℕ) → blocks.recorded b x ≡ Some u → u ≡ v) → blocks.recorded c x ≡ Some w →
    ((c ≡ b) × (updated blocks.recorded b (updated (blocks.recorded b) x (Some v)) c ≡ updated (blocks.recorded b) x (Some v))) ⊎
    ((c ≢ b) × (updated blocks.recorded b (updated (blocks.recorded b) x (Some v)) c ≡ blocks.recorded c)) →
    updated blocks.recorded b (updated (blocks.recorded b) x (Some v)) c x ≡ Some w
recorded_anew blocks b x v c w only here (inl at) =
    let same : w ≡ v = only w (ap (λ d. blocks.recorded d x) (sym at.0) ∙ here) in
    ap (λ t. t x) at.1 ∙ updated-same (blocks.recorded b) x (Some v) x refl ∙ ap (λ u. Some u) (sym same)
recorded_anew blocks b x v c w only here (inr other) = ap (λ t. t x) other.1 ∙ here

record_kept : (blocks : Blocks) (b x v : ℕ) → ((u : ℕ) → blocks.recorded b x ≡ Some u → u ≡ v) → Keeps blocks (with_record blocks b x v) x
record_kept blocks b x v only = record {
  recorded_kept = λ c w e. recorded_anew blocks b x v c w only e (updated_cases blocks.recorded b (updated (blocks.recorded b) x (Some v)) c);
  ends_kept = λ u w e. e;
}

still_only :
    (recorded : ℕ → ℕ → Option ℕ) (b x v c w : ℕ) → ((u : ℕ) → recorded c x ≡ Some u → u ≡ v) →
    updated recorded b (updated (recorded b) x (Some v)) c x ≡ Some w →
    ((c ≡ b) × (updated recorded b (updated (recorded b) x (Some v)) c ≡ updated (recorded b) x (Some v))) ⊎
    ((c ≢ b) × (updated recorded b (updated (recorded b) x (Some v)) c ≡ recorded c)) → w ≡ v
still_only recorded b x v c w only here (inl at) =
    let both : Some v ≡ Some w = sym (updated-same (recorded b) x (Some v) x refl) ∙ sym (ap (λ t. t x) at.1) ∙ here in
    cc
still_only recorded b x v c w only here (inr other) = only w (sym (ap (λ t. t x) other.1) ∙ here)

still_unrecorded : (blocks : Blocks) (b x v : ℕ) (chain : List ℕ) → Unrecorded blocks x v chain → Unrecorded (with_record blocks b x v) x v chain
still_unrecorded blocks b x v [] unrecorded = tt
still_unrecorded blocks b x v (c ∷ chain) unrecorded = (
  λ w e. still_only blocks.recorded b x v c w unrecorded.0 e (updated_cases blocks.recorded b (updated (blocks.recorded b) x (Some v)) c),
  still_unrecorded blocks b x v chain unrecorded.1,
)

chain_kept : (blocks : Blocks) (x v : ℕ) (chain : List ℕ) → Unrecorded blocks x v chain → Keeps blocks (with_chain blocks x v chain) x
chain_kept blocks x v [] unrecorded = record { recorded_kept = λ b w e. e; ends_kept = λ u w e. e }
chain_kept blocks x v (b ∷ chain) unrecorded =
    keeps_trans blocks (with_record blocks b x v) (with_chain (with_record blocks b x v) x v chain) x
    (record_kept blocks b x v unrecorded.0)
    (chain_kept (with_record blocks b x v) x v chain (still_unrecorded blocks b x v chain unrecorded.1))

-- a chain of records changes neither definitions nor seals
chain_waits : (blocks : Blocks) (x v y : ℕ) (chain : List ℕ) → (w : ℕ) → KeepsWaiting blocks (with_chain blocks x v chain) y w
chain_waits blocks x v y [] w = record { waits = λ b waits root. waits; no_alias = λ b waits root. root }
chain_waits blocks x v y (c ∷ chain) w =
    waiting_trans blocks (with_record blocks c x v) (with_chain (with_record blocks c x v) x v chain) y w
    (record { waits = λ b waits root. record { is_parameter = waits.is_parameter; is_sealed = waits.is_sealed }; no_alias = λ b waits root. root })
    (chain_waits (with_record blocks c x v) x v y chain w)

chain_frames : (blocks : Blocks) (x v : ℕ) (chain : List ℕ) (frames : List Frame) → KeepsFrames blocks (with_chain blocks x v chain) x frames
unfolding KeepsFrames
chain_frames blocks x v chain [] = tt
chain_frames blocks x v chain (f ∷ frames) = (chain_waits blocks x v x chain f.parameter, chain_frames blocks x v chain frames)

chain_end :
    (blocks : Blocks) (x v from : ℕ) (chain : List ℕ) → blocks.recorded from x ≡ Some v →
    (with_chain blocks x v chain).recorded (last_of from chain) x ≡ Some v
chain_end blocks x v from [] e = e
chain_end blocks x v from (b ∷ chain) e = chain_end (with_record blocks b x v) x v b chain (block_record_new blocks b x v)

pub record_is_found :
    (blocks : Blocks) (predecessors : ℕ → List ℕ) (x : ℕ) (first : Option ℕ) (frames : List Frame) (from v : ℕ) (chain : List ℕ) →
    BlocksSound blocks → Expects blocks predecessors x first frames (last_of from chain) →
    blocks.recorded from x ≡ Some v → IsChain blocks x from chain → Unrecorded blocks x v chain →
    Finds (with_chain blocks x v chain) predecessors x first frames (last_of from chain) v
record_is_found blocks predecessors x first frames from v chain sound expects is_recorded is_chain unrecorded = record {
  sound = chain_keeps blocks x v from chain is_recorded is_chain sound;
  expects =
      expects_kept blocks (with_chain blocks x v chain) predecessors x first frames (last_of from chain)
      (chain_kept blocks x v chain unrecorded) (chain_frames blocks x v chain frames) expects;
  knows = record { value = v; is_recorded = chain_end blocks x v from chain is_recorded; resolves = refl };
}

-- A parameter is added --------------------------------------------------------------------------------------------

-- a waiting parameter is none that isn't there
waits_other : (blocks : Blocks) (b x w v : ℕ) → WaitsIn blocks b x w → (blocks.function.definition v).home ≡ start → w ≢ v
waits_other blocks b x w v waits new_value same =
    front_written b
    (sym (ap (λ (d : Definition). d.home) waits.is_parameter) ∙ ap (λ u. (blocks.function.definition u).home) same ∙ new_value)

-- a new definition leaves waiting parameters as they were
new_waiting :
    (blocks blocks' : Blocks) (x v w : ℕ) (new : Definition) → (blocks.function.definition v).home ≡ start →
    blocks'.function.definition ≡ updated blocks.function.definition v new → blocks'.function.resolve ≡ blocks.function.resolve → blocks'.sealed ≡ blocks.sealed →
    KeepsWaiting blocks blocks' x w
new_waiting blocks blocks' x v w new new_value definition resolve sealed = record {
  waits = λ b waits root. record {
    is_parameter =
        ap (λ t. t w) definition ∙ updated-other blocks.function.definition v new w (waits_other blocks b x w v waits new_value) ∙ waits.is_parameter;
    is_sealed = ap (λ t. t b) sealed ∙ waits.is_sealed;
  };
  no_alias = λ b waits root. ap (λ t. t w) resolve ∙ root;
}

new_frames :
    (blocks blocks' : Blocks) (x v : ℕ) (new : Definition) → (blocks.function.definition v).home ≡ start →
    blocks'.function.definition ≡ updated blocks.function.definition v new → blocks'.function.resolve ≡ blocks.function.resolve → blocks'.sealed ≡ blocks.sealed →
    (frames : List Frame) → KeepsFrames blocks blocks' x frames
unfolding KeepsFrames
new_frames blocks blocks' x v new new_value definition resolve sealed [] = tt
new_frames blocks blocks' x v new new_value definition resolve sealed (f ∷ frames) = (
  new_waiting blocks blocks' x v f.parameter new new_value definition resolve sealed,
  new_frames blocks blocks' x v new new_value definition resolve sealed frames,
)

not_for_new :
    (blocks : Blocks) (predecessors : ℕ → List ℕ) (x : ℕ) (first : Option ℕ) (frames : List Frame) (b v : ℕ) →
    (blocks.function.definition v).home ≡ start → Expects blocks predecessors x first frames b → NotFor v frames
not_for_new blocks predecessors x first [] b v new_value expects = tt
not_for_new blocks predecessors x first (f ∷ frames) b v new_value expects =
    let deeper : (c : ℕ) → Expects blocks predecessors x first frames c → NotFor v frames =
    λ c e. not_for_new blocks predecessors x first frames c v new_value e in
    (λ same. waits_other blocks f.block x f.parameter v expects.0.waits new_value (sym same), below expects.3 deeper)
  where
    below :
        ((frames ≡ []) × (first ≡ None)) ⊎ ((c : ℕ) × (Knows blocks c x f.parameter) × (Expects blocks predecessors x first frames c)) →
        ((c : ℕ) → Expects blocks predecessors x first frames c → NotFor v frames) → NotFor v frames
    below (inl none) deeper = subst (λ fs. NotFor v fs) (sym none.0) tt
    below (inr (c, knows, expects)) deeper = deeper c expects

chain_like : (blocks : Blocks) (b x v y from : ℕ) (chain : List ℕ) → IsChain blocks y from chain → IsChain (with_parameter blocks b x v) y from chain
chain_like blocks b x v y from [] is_chain = tt
chain_like blocks b x v y from (c ∷ chain) is_chain = (
  record { is_sealed = is_chain.0.is_sealed; assigns_not = record { none = is_chain.0.assigns_not.none }; single = is_chain.0.single },
  chain_like blocks b x v y c chain is_chain.1,
)

unrecorded_like : (blocks : Blocks) (b x v : ℕ) (chain : List ℕ) → Unrecorded blocks x v chain → Unrecorded (with_parameter blocks b x v) x v chain
unrecorded_like blocks b x v [] unrecorded = tt
unrecorded_like blocks b x v (c ∷ chain) unrecorded = (
  λ w e. still_only blocks.recorded b x v c w unrecorded.0 e (updated_cases blocks.recorded b (updated (blocks.recorded b) x (Some v)) c),
  unrecorded_like blocks b x v chain unrecorded.1,
)

parameter_kept : (blocks : Blocks) (b x v : ℕ) → blocks.recorded b x ≡ None → Keeps blocks (with_parameter blocks b x v) x
parameter_kept blocks b x v none =
    let kept : Keeps blocks (with_record blocks b x v) x =
    record_kept blocks b x v (λ u e. let clash : None ≡ Some u = sym none ∙ e in absurd cc) in
    record { recorded_kept = kept.recorded_kept; ends_kept = λ u w e. e }

pub parameter_is_added :
    (blocks : Blocks) (predecessors : ℕ → List ℕ) (x : ℕ) (first : Option ℕ) (frames : List Frame) (from v : ℕ) (chain : List ℕ) →
    BlocksSound blocks → Expects blocks predecessors x first frames (last_of from chain) →
    CanAddParameter blocks from x v → blocks.recorded from x ≡ None → IsChain blocks x from chain → Unrecorded blocks x v chain →
    Finds (with_chain (with_parameter blocks from x v) x v chain) predecessors x first frames (last_of from chain) v × NotFor v frames
parameter_is_added blocks predecessors x first frames from v chain sound expects can none is_chain unrecorded =
    let added : Blocks = with_parameter blocks from x v in
    let frames_kept : KeepsFrames blocks added x frames =
    new_frames blocks added x v (record { home = front from; kind = pending x }) can.new_value refl refl refl frames in (
      record_is_found added predecessors x first frames from v chain
          (parameter_keeps blocks from x v can sound)
          (expects_kept blocks added predecessors x first frames (last_of from chain) (parameter_kept blocks from x v none) frames_kept expects)
          (block_record_new blocks from x v)
          (chain_like blocks from x v x from chain is_chain)
          (unrecorded_like blocks from x v chain unrecorded),
      not_for_new blocks predecessors x first frames (last_of from chain) v can.new_value expects,
    )

-- A look-up ends --------------------------------------------------------------------------------------------------

in_back : (bs rest : List ℕ) (b : ℕ) → InList (back_onto bs rest) b → InList bs b ⊎ InList rest b
in_back [] rest b found = inr found
in_back (c ∷ bs) rest b found = sorted (in_back bs (c ∷ rest) b found)
  where
    sorted : InList bs b ⊎ InList (c ∷ rest) b → InList (c ∷ bs) b ⊎ InList rest b
    sorted (inl earlier) = inl (inr earlier)
    sorted (inr (inl here)) = inl (inl here)
    sorted (inr (inr later)) = inr later

in_done : (bs : List ℕ) (b : ℕ) → InList bs b ⊎ InList [] b → InList bs b
in_done bs b (inl found) = found
in_done bs b (inr none) = absurd none

-- a predecessor of the block is done once none is to do
is_done :
    (blocks : Blocks) (predecessors : ℕ → List ℕ) (x : ℕ) (first : Option ℕ) (f : Frame) (frames : List Frame) →
    AtRest blocks predecessors x first f frames → f.todo ≡ [] → (b : ℕ) → InList (predecessors f.block) b → InList f.done b
is_done blocks predecessors x first f frames rest none b found =
    in_done f.done b (in_back f.done [] b (subst (λ bs. InList bs b) (rest.all ∙ ap (λ t. back_onto f.done t) none) found))

known_of :
    (blocks : Blocks) (x : ℕ) (bs rs : List ℕ) (b : ℕ) → AllKnow blocks x bs rs → InList bs b → (r : ℕ) × (InList rs r) × (Knows blocks b x r)
known_of blocks x [] rs b all found = absurd found
known_of blocks x (c ∷ bs) [] b all found = absurd all
known_of blocks x (c ∷ bs) (r ∷ rs) b all (inl here) = (r, inl refl, subst (λ d. Knows blocks d x r) (sym here) all.0)
known_of blocks x (c ∷ bs) (r ∷ rs) b all (inr later) =
    let (s, found, knows) = known_of blocks x bs rs b all.1 later in
    (s, inr found, knows)

-- each result is what some block knows
pub known_by : (blocks : Blocks) (x : ℕ) (bs rs : List ℕ) (r : ℕ) → AllKnow blocks x bs rs → InList rs r → (b : ℕ) × Knows blocks b x r
known_by blocks x [] [] r all found = absurd found
known_by blocks x [] (s ∷ rs) r all found = absurd all
known_by blocks x (c ∷ bs) [] r all found = absurd found
known_by blocks x (c ∷ bs) (s ∷ rs) r all (inl here) = (c, subst (λ u. Knows blocks c x u) (sym here) all.0)
known_by blocks x (c ∷ bs) (s ∷ rs) r all (inr later) = known_by blocks x bs rs r all.1 later

known_paired : (blocks : Blocks) (x : ℕ) (bs rs : List ℕ) (b r : ℕ) → AllKnow blocks x bs rs → Paired bs rs b r → Knows blocks b x r
known_paired blocks x [] rs b r all pair = absurd pair
known_paired blocks x (c ∷ bs) [] b r all pair = absurd pair
known_paired blocks x (c ∷ bs) (s ∷ rs) b r all (inl here) =
    subst (λ d. Knows blocks d x r) (sym here.0) (subst (λ u. Knows blocks c x u) (sym here.1) all.0)
known_paired blocks x (c ∷ bs) (s ∷ rs) b r all (inr later) = known_paired blocks x bs rs b r all.1 later

-- what a block knows an arm that leaves it carries
carries_known : (blocks : Blocks) (arm : Arm) (b x r v : ℕ) → arm.source ≡ last_place blocks b → Knows blocks b x r → blocks.function.resolve r ≡ v → Carries blocks arm x v
carries_known blocks arm b x r v leaves knows resolves = record {
  from = b;
  leaves = leaves;
  value = knows.value;
  is_recorded = knows.is_recorded;
  resolves = knows.resolves ∙ resolves;
}

aliased_other : (resolve : ℕ → ℕ) (v target w : ℕ) → resolve w ≡ w → w ≢ v → aliased resolve v target w ≡ w
aliased_other resolve v target w root ne = by_case (aliased_cases resolve v target w)
  where
    by_case : ((resolve w ≡ v) × (aliased resolve v target w ≡ target)) ⊎ ((resolve w ≢ v) × (aliased resolve v target w ≡ resolve w)) → aliased resolve v target w ≡ w
    by_case (inl c) = absurd (ne (sym root ∙ c.0))
    by_case (inr c) = c.1 ∙ root

aliased_to : (resolve : ℕ → ℕ) (v target w : ℕ) → resolve w ≡ v → aliased resolve v target w ≡ target
aliased_to resolve v target w e = by_case (aliased_cases resolve v target w)
  where
    by_case : ((resolve w ≡ v) × (aliased resolve v target w ≡ target)) ⊎ ((resolve w ≢ v) × (aliased resolve v target w ≡ resolve w)) → aliased resolve v target w ≡ target
    by_case (inl c) = c.1
    by_case (inr c) = absurd (c.0 e)

dropped_kept : (blocks : Blocks) (x v target : ℕ) → Keeps blocks (with_dropped blocks v target) x
dropped_kept blocks x v target = record {
  recorded_kept = λ b w e. e;
  ends_kept = λ u w e.
      same_ends blocks.function.resolve v target u w e (aliased_cases blocks.function.resolve v target u) (aliased_cases blocks.function.resolve v target w);
}

dropped_frames : (blocks : Blocks) (x v target : ℕ) (frames : List Frame) → NotFor v frames → KeepsFrames blocks (with_dropped blocks v target) x frames
unfolding KeepsFrames
dropped_frames blocks x v target [] apart = tt
dropped_frames blocks x v target (f ∷ frames) apart = (
  record {
    waits = λ b waits root. record { is_parameter = waits.is_parameter; is_sealed = waits.is_sealed };
    no_alias = λ b waits root. aliased_other blocks.function.resolve v target f.parameter root (λ e. apart.0 (sym e));
  },
  dropped_frames blocks x v target frames apart.1,
)

-- an alias goes where its parameter went
alias_goes :
    (blocks : Blocks) (predecessors : ℕ → List ℕ) (x : ℕ) (first : Option ℕ) (frames : List Frame) (v target : ℕ) → NotFor v frames →
    blocks.function.resolve v ≡ v → blocks.function.resolve target ≡ target → target ≢ v →
    GoesTo blocks predecessors x first frames v → GoesTo (with_dropped blocks v target) predecessors x first frames target
alias_goes blocks predecessors x first frames v target apart root target_root other (inl none) = inl none
alias_goes blocks predecessors x first frames v target apart root target_root other (inr (c, knows, expects)) =
    inr (
      c,
      record {
        value = knows.value;
        is_recorded = knows.is_recorded;
        resolves =
            aliased_to blocks.function.resolve v target knows.value (knows.resolves ∙ root) ∙
            sym (aliased_other blocks.function.resolve v target target target_root other);
      },
      expects_kept blocks (with_dropped blocks v target) predecessors x first frames c (dropped_kept blocks x v target)
          (dropped_frames blocks x v target frames apart) expects,
    )

pub dropping_finishes :
    (blocks : Blocks) (predecessors : ℕ → List ℕ) (x : ℕ) (first : Option ℕ) (f : Frame) (frames : List Frame) (target : ℕ) →
    BlocksSound blocks → AtRest blocks predecessors x first f frames → f.todo ≡ [] → LeavesOneOf blocks f.block (predecessors f.block) →
    blocks.function.resolve target ≡ target → target ≢ f.parameter →
    ((r : ℕ) → InList f.results r → (blocks.function.resolve r ≡ target) ⊎ (blocks.function.resolve r ≡ f.parameter)) →
    ((r : ℕ) × (InList f.results r) × (blocks.function.resolve r ≡ target)) →
    Delivers (with_dropped blocks f.parameter target) predecessors x first frames target
dropping_finishes blocks predecessors x first f frames target sound rest none leaves target_root other each some = record {
  sound =
      dropped_keeps blocks f.block x f.parameter target
      (record {
        waits = rest.fits.waits;
        no_alias = target_root;
        along = λ arm joined at.
            let (b, among, source) = leaves.from arm joined at in
            let (r, found, knows) = known_of blocks x f.done f.results b rest.fits.known (is_done blocks predecessors x first f frames rest none b among) in
            either arm b r source knows (each r found);
        somewhere = brought some;
      })
      sound;
  goes = alias_goes blocks predecessors x first frames f.parameter target rest.apart rest.fits.no_alias target_root other rest.below;
}
  where
    brought : (r : ℕ) × (InList f.results r) × (blocks.function.resolve r ≡ target) → KnownSomewhere blocks x target
    brought (r, found, ends) =
        let (b, knows) = known_by blocks x f.done f.results r rest.fits.known found in
        record {
          block = b;
          known = record { value = knows.value; is_recorded = knows.is_recorded; resolves = knows.resolves ∙ ends ∙ sym target_root };
        }

    either : (arm : Arm) (b r : ℕ) → arm.source ≡ last_place blocks b → Knows blocks b x r → (blocks.function.resolve r ≡ target) ⊎ (blocks.function.resolve r ≡ f.parameter) → Carries blocks arm x target ⊎ Carries blocks arm x f.parameter
    either arm b r source knows (inl e) = inl (carries_known blocks arm b x r target source knows e)
    either arm b r source knows (inr e) = inr (carries_known blocks arm b x r f.parameter source knows e)

filled_frames :
    (blocks : Blocks) (x v : ℕ) (given : Arm → ℕ) (frames : List Frame) → NotFor v frames → KeepsFrames blocks (with_filled blocks x v given) x frames
unfolding KeepsFrames
filled_frames blocks x v given [] apart = tt
filled_frames blocks x v given (f ∷ frames) apart = (
  record {
    waits = λ b waits root. record {
      is_parameter =
          updated-other blocks.function.definition v (record { home = (blocks.function.definition v).home; kind = complete x }) f.parameter
          (λ e. apart.0 (sym e)) ∙ waits.is_parameter;
      is_sealed = waits.is_sealed;
    };
    no_alias = λ b waits root. root;
  },
  filled_frames blocks x v given frames apart.1,
)

paired_back :
    (blocks : Blocks) (x : ℕ) (bs rs cs ss : List ℕ) (b r : ℕ) → AllKnow blocks x bs rs → Paired (back_onto bs cs) (back_onto rs ss) b r →
    Paired bs rs b r ⊎ Paired cs ss b r
paired_back blocks x [] [] cs ss b r all pair = inr pair
paired_back blocks x [] (t ∷ rs) cs ss b r all pair = absurd all
paired_back blocks x (c ∷ bs) [] cs ss b r all pair = absurd all
paired_back blocks x (c ∷ bs) (t ∷ rs) cs ss b r all pair = sorted (paired_back blocks x bs rs (c ∷ cs) (t ∷ ss) b r all.1 pair)
  where
    sorted : Paired bs rs b r ⊎ Paired (c ∷ cs) (t ∷ ss) b r → Paired (c ∷ bs) (t ∷ rs) b r ⊎ Paired cs ss b r
    sorted (inl earlier) = inl (inr earlier)
    sorted (inr (inl here)) = inl (inl here)
    sorted (inr (inr later)) = inr later

paired_done : (bs rs : List ℕ) (b r : ℕ) → Paired bs rs b r ⊎ Paired [] [] b r → Paired bs rs b r
paired_done bs rs b r (inl pair) = pair
paired_done bs rs b r (inr none) = absurd none

pub filling_finishes :
    (blocks : Blocks) (predecessors : ℕ → List ℕ) (x : ℕ) (first : Option ℕ) (f : Frame) (frames : List Frame) (given : Arm → ℕ) →
    BlocksSound blocks → AtRest blocks predecessors x first f frames → f.todo ≡ [] →
    ((arm : Arm) → blocks.joins arm ≡ true → arm.target ≡ front f.block →
    (b : ℕ) × (Paired (predecessors f.block) (back_onto f.results []) b (given arm)) × (arm.source ≡ last_place blocks b)) →
    Delivers (with_filled blocks x f.parameter given) predecessors x first frames f.parameter
filling_finishes blocks predecessors x first f frames given sound rest none along = record {
  sound =
      filled_keeps blocks f.block x f.parameter given
      (record {
        waits = rest.fits.waits;
        along = λ arm joined at.
            let (b, pair, source) = along arm joined at in
            let done : Paired f.done f.results b (given arm) =
            paired_done f.done f.results b (given arm)
            (paired_back blocks x f.done f.results [] [] b (given arm) rest.fits.known
            (subst (λ bs. Paired bs (back_onto f.results []) b (given arm)) (rest.all ∙ ap (λ t. back_onto f.done t) none) pair)) in
            carries_known blocks arm b x (given arm) (blocks.function.resolve (given arm)) source
            (known_paired blocks x f.done f.results b (given arm) rest.fits.known done) refl;
      })
      sound;
  goes =
      goes_kept blocks (with_filled blocks x f.parameter given) predecessors x first frames f.parameter
      (record { recorded_kept = λ b w e. e; ends_kept = λ u w e. e }) (filled_frames blocks x f.parameter given frames rest.apart) rest.below;
}

length_back : (bs rest : List ℕ) → length (back_onto bs rest) ≡ length bs + length rest
length_back [] rest = sym (zero-add (length rest))
length_back (b ∷ bs) rest =
    let deeper : length (back_onto bs (b ∷ rest)) ≡ length bs + suc (length rest) = length_back bs (b ∷ rest) in
    omega arith

length_known : (blocks : Blocks) (x : ℕ) (bs rs : List ℕ) → AllKnow blocks x bs rs → length rs ≡ length bs
length_known blocks x [] [] all = refl
length_known blocks x [] (r ∷ rs) all = absurd all
length_known blocks x (b ∷ bs) [] all = absurd all
length_known blocks x (b ∷ bs) (r ∷ rs) all = ap suc (length_known blocks x bs rs all.1)

pub results_are_counted :
    (blocks : Blocks) (predecessors : ℕ → List ℕ) (x : ℕ) (first : Option ℕ) (f : Frame) (frames : List Frame) →
    AtRest blocks predecessors x first f frames → length f.results + length f.todo ≡ length (predecessors f.block)
results_are_counted blocks predecessors x first f frames rest =
    let known : length f.results ≡ length f.done = length_known blocks x f.done f.results rest.fits.known in
    let all : length (predecessors f.block) ≡ length f.done + length f.todo = ap length rest.all ∙ length_back f.done f.todo in
    omega arith

zero_waits : (blocks : Blocks) (b x v z : ℕ) → WaitsIn blocks b x v → (blocks.function.definition z).home ≡ start → WaitsIn (with_zero_in blocks b x z) b x v
zero_waits blocks b x v z waits new_value = record {
  is_parameter =
      updated-other blocks.function.definition z (record { home = front b; kind = zero_of x }) v (waits_other blocks b x v z waits new_value) ∙
      waits.is_parameter;
  is_sealed = waits.is_sealed;
}

pub zero_finishes :
    (blocks : Blocks) (predecessors : ℕ → List ℕ) (x : ℕ) (first : Option ℕ) (f : Frame) (frames : List Frame) (z : ℕ) →
    BlocksSound blocks → AtRest blocks predecessors x first f frames → f.todo ≡ [] →
    ((arm : Arm) → blocks.joins arm ≡ true → arm.target ≡ front f.block →
    (arm.source ≡ start) ⊎ ((b : ℕ) × (InList (predecessors f.block) b) × (arm.source ≡ last_place blocks b))) →
    (blocks.function.definition z).home ≡ start → blocks.function.resolve z ≡ z →
    ((r : ℕ) → InList f.results r → blocks.function.resolve r ≡ f.parameter) →
    Delivers (with_dropped (with_zero_in blocks f.block x z) f.parameter z) predecessors x first frames z
zero_finishes blocks predecessors x first f frames z sound rest none leaves new_value root each =
    let put : Blocks = with_zero_in blocks f.block x z in
    let new : Definition = record { home = front f.block; kind = zero_of x } in
    let other : z ≢ f.parameter = λ e. waits_other blocks f.block x f.parameter z rest.fits.waits new_value (sym e) in
    record {
      sound =
          undefined_keeps put f.block x f.parameter z
          (record {
            waits = zero_waits blocks f.block x f.parameter z rest.fits.waits new_value;
            no_alias = root;
            is_zero = updated-same blocks.function.definition z new z refl;
            along = λ arm joined at. either arm (leaves arm joined at);
          })
          (zero_in_keeps blocks f.block x z new_value sound);
      goes =
          alias_goes put predecessors x first frames f.parameter z rest.apart rest.fits.no_alias root other
          (goes_kept blocks put predecessors x first frames f.parameter (record { recorded_kept = λ b w e. e; ends_kept = λ u w e. e })
          (new_frames blocks put x z new new_value refl refl refl frames) rest.below);
    }
  where
    either :
        (arm : Arm) → (arm.source ≡ start) ⊎ ((b : ℕ) × (InList (predecessors f.block) b) × (arm.source ≡ last_place blocks b)) →
        (arm.source ≡ start) ⊎ Carries (with_zero_in blocks f.block x z) arm x f.parameter
    either arm (inl at_start) = inl at_start
    either arm (inr (b, among, source)) =
        let (r, found, knows) = known_of blocks x f.done f.results b rest.fits.known (is_done blocks predecessors x first f frames rest none b among) in
        inr (record {
          from = b;
          leaves = source;
          value = knows.value;
          is_recorded = knows.is_recorded;
          resolves = knows.resolves ∙ each r found;
        })
