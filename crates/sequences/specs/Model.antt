-- The plan under a sequence of the root's children; the scan along the sequence, which decides whether that plan is
-- CLEAR; the search for the first such sequence. Propositions and functions that compute. Definitions only.
use Rattle.std.specs.Prelude.{◌≡◌, ◌⊎◌, Bool, true, false, not, ℕ, zero, suc, ◌<◌, eqb, ltb}
use Rattle.std.proofs.Common.{inl, inr}
use Rattle.std.proofs.Math.Option.{Option, none, some}
use mathlib.Core.List.{List, [], ◌∷◌, Memᴰ as Among, Lexᴰ}
use Rattle.runs.specs.Tests.{both, implies, negate, all_below, same_b}
use Rattle.runs.specs.Searches.{either, listed}
use Rattle.runs.specs.Plan.{all_of, Plan, Child, Before}
use Rattle.runs.specs.Execution.{last_asserted}
use Rattle.runs.specs.Summary.{May, ExternalPre, ExternalPost, MayClobber}
use Rattle.base.specs.Count.{count_below}
use Rattle.runs.specs.Model.Blocked.{over}
use Rattle.runs.specs.Model.Trees.{kind_b, child_b, every_child_b, before_b}
use Rattle.runs.specs.Model.Marks.{avoid_b, may_pre_b, may_post_b, may_clobber_b}

-- ---- the plan under a sequence
-- a is in the list, and b after it
unfoldable pub ahead_b : List ℕ → ℕ → ℕ → Bool
ahead_b [] a b = false
ahead_b (x ∷ xs) a b = either (both (eqb a x) (λ u. listed xs b)) (λ u. ahead_b xs a b)

-- the plan with the sequence's orders added
unfoldable pub serial_order : Plan → List ℕ → ℕ → ℕ → Bool
serial_order p xs a b = either (p.order a b) (λ u. ahead_b xs a b)

abbrev pub serial : Plan → List ℕ → Plan
serial p xs = over p p.tree (serial_order p xs)

-- ---- the scan, as propositions
-- no child of the root may clobber
abbrev pub Calm : Plan → Type 0
Calm p = (c : ℕ) → Child p 0 c → (f : ℕ) (v : Bool) → ¬ MayClobber p f v c

module _ (p : Plan) (F : ℕ → Bool) where
  -- the literal may be true when the nodes `seen`, the newest first, have run one after the other: it is at the start;
  -- the newest may leave it; or it may have been true before the newest, which has a completed execution that does not
  -- assert the flag
  pub data MayBeTrue (f : ℕ) (v : Bool) : List ℕ → Type 0 where
    at_start : F f ≡ v → MayBeTrue f v []
    left : {c : ℕ} {seen : List ℕ} → May p c (ExternalPost p f v) → MayBeTrue f v (c ∷ seen)
    stays : {c : ℕ} {seen : List ℕ} → May p c (λ h. last_asserted p h f ≡ none) → MayBeTrue f v seen
        → MayBeTrue f v (c ∷ seen)

  -- c may need no literal whose opposite may be true
  abbrev pub Safe : List ℕ → ℕ → Type 0
  Safe seen c = (f : ℕ) (v : Bool) → May p c (ExternalPre p f v) → ¬ MayBeTrue f (not v) seen

  -- and so all along the rest of a sequence
  pub data SafeAlong : List ℕ → List ℕ → Type 0 where
    end : {seen : List ℕ} → SafeAlong seen []
    step : {c : ℕ} {seen xs : List ℕ} → Safe seen c → SafeAlong (c ∷ seen) xs → SafeAlong seen (c ∷ xs)

  -- ---- what a search is about
  -- all children of the root are seen
  abbrev pub AllSeen : List ℕ → Type 0
  AllSeen seen = (c : ℕ) → Child p 0 c → Among c seen

  -- c may come next after `seen`
  pub record MayFollow (seen : List ℕ) (c : ℕ) : Type 0 where
    pub child : Child p 0 c
    pub new : ¬ Among c seen
    pub ordered : (a : ℕ) → Before p a c → Among a seen
    pub safe : Safe seen c

  -- xs is a rest of a sequence after `seen`
  pub data Rest : List ℕ → List ℕ → Type 0 where
    all_seen : {seen : List ℕ} → AllSeen seen → Rest seen []
    then : {c : ℕ} {seen xs : List ℕ} → MayFollow seen c → Rest (c ∷ seen) xs → Rest seen (c ∷ xs)

  -- no rest after `seen` begins with c
  abbrev pub DeadEnd : List ℕ → ℕ → Type 0
  DeadEnd seen c = (ys : List ℕ) → ¬ Rest seen (c ∷ ys)

  -- the first rest after `seen` in dictionary order, or there is none
  pub data FirstRest (seen : List ℕ) : Option (List ℕ) → Type 0 where
    first_rest : {xs : List ℕ} → Rest seen xs → ((ys : List ℕ) → Rest seen ys → ¬ Lexᴰ ◌<◌ ys xs)
        → FirstRest seen (some xs)
    no_rest : ((ys : List ℕ) → ¬ Rest seen ys) → FirstRest seen none

-- ---- the same as tests; m tells which literals may be true
unfoldable pub start_b : (ℕ → Bool) → ℕ → Bool → Bool
start_b F f v = same_b (F f) v

module _ (p : Plan) where
  unfoldable pub next_b : (ℕ → Bool → Bool) → ℕ → ℕ → Bool → Bool
  next_b m c f v = either (may_post_b p c f v) (λ u. both (avoid_b p c f) (λ u. m f v))

  -- both literals of each flag
  unfoldable pub every_literal_b : (ℕ → Bool → Bool) → Bool
  every_literal_b t = all_below p.conditions.flags (λ f. both (t f true) (λ u. t f false))

  unfoldable pub safe_b : (ℕ → Bool → Bool) → ℕ → Bool
  safe_b m c = every_literal_b (λ f v. implies (may_pre_b p c f v) (λ u. negate (m f (not v))))

  unfoldable pub passes_b : (ℕ → Bool → Bool) → List ℕ → Bool
  passes_b m [] = true
  passes_b m (c ∷ xs) = both (safe_b m c) (λ u. passes_b (next_b m c) xs)

  unfoldable pub calm_b : Bool
  calm_b = every_child_b p 0 (λ c. every_literal_b (λ f v. negate (may_clobber_b p c f v)))

  -- the plan under the sequence is CLEAR
  unfoldable pub serial_clear_b : (ℕ → Bool) → List ℕ → Bool
  serial_clear_b F xs = both calm_b (λ u. passes_b (start_b F) xs)

-- ---- the search: children in rising order, and a prefix that fails is left at once
unfoldable pub unless : Bool → Option (List ℕ) → (Unit {0} → Option (List ℕ)) → Option (List ℕ)
unless true o g = o
unless false o g = g tt

unfoldable pub prefixed : ℕ → Option (List ℕ) → Option (List ℕ)
prefixed c none = none
prefixed c (some xs) = some (c ∷ xs)

unfoldable pub or_next : Option (List ℕ) → (Unit {0} → Option (List ℕ)) → Option (List ℕ)
or_next none g = g tt
or_next (some xs) g = some xs

-- what the lowest number below n that gives a list gives
unfoldable pub first_below : ℕ → (ℕ → Option (List ℕ)) → Option (List ℕ)
first_below zero g = none
first_below (suc n) g = or_next (first_below n g) (λ u. g n)

module _ (p : Plan) where
  -- c may come next after `seen`: a child of the root, not yet seen, all that is before it seen, and safe
  unfoldable pub may_follow_b : (ℕ → Bool → Bool) → List ℕ → ℕ → Bool
  may_follow_b m seen c = both (child_b p 0 c) (λ u. both (negate (listed seen c))
      (λ u. both (every_child_b p 0 (λ a. implies (before_b p a c) (λ u. listed seen a)))
      (λ u. safe_b p m c)))

  -- the rest of the sequence, with at most k turns
  unfoldable pub rest_in : ℕ → (ℕ → Bool → Bool) → List ℕ → Option (List ℕ)
  rest_in zero m seen = none
  rest_in (suc k) m seen = unless (every_child_b p 0 (listed seen)) (some [])
      (λ u. first_below p.tree.size (λ c. unless (negate (may_follow_b m seen c)) none
      (λ u. prefixed c (rest_in k (next_b p m c) (c ∷ seen)))))

  -- of an all_of root
  unfoldable pub first_sequence : (ℕ → Bool) → Option (List ℕ)
  first_sequence F = unless (negate (calm_b p)) none (λ u. rest_in (suc p.tree.size) (start_b F) [])

  -- how many children the root has
  abbrev pub child_count : ℕ
  child_count = count_below p.tree.size (child_b p 0)

  unfoldable pub refused23_b : Bool
  refused23_b = either (negate (kind_b (p.tree.kind 0) all_of)) (λ u. ltb 7 child_count)

abbrev pub found_or24 : Option (List ℕ) → ℕ ⊎ List ℕ
found_or24 none = inl 24
found_or24 (some xs) = inr xs

abbrev pub unless23 : Bool → Option (List ℕ) → ℕ ⊎ List ℕ
unless23 true o = inl 23
unless23 false o = found_or24 o

-- the answer
unfoldable pub sequence_of : Plan → (ℕ → Bool) → ℕ ⊎ List ℕ
sequence_of p F = unless23 (refused23_b p) (first_sequence p F)
