-- Small plans, computed: which sequence is answered.
use Rattle.runs.proofs.Base.{◌≡◌, refl, inl, inr, Bool, true, false, cond, Option, none, some, [], ◌∷◌, ℕ, ltb}
use Rattle.runs.proofs.Base.{eqb}
use Rattle.runs.specs.Tests.{both}
use Rattle.base.specs.Count.{count_below}
use Rattle.runs.specs.Plan.{Kind, task, all_of, any_of, optional, Place, pre, inc, post, Plan}
use Rattle.runs.specs.Verdict.{CLEAR, OPEN, DOOMED}
use Rattle.sequences.specs.Model.{ahead_b, serial_order, serial}
use Rattle.runs.specs.Model.Computing.{computing}
use Rattle.runs.specs.Model.Verdicts.{verdict}
use Rattle.sequences.specs.Model.{start_b, next_b, every_literal_b, safe_b, calm_b, unless, prefixed, or_next}
use Rattle.sequences.specs.Model.{first_below, may_follow_b, rest_in, first_sequence, refused23_b, sequence_of}

-- a root of the kind k with n tasks, of which A (1) leaves flag 0 set and Z (2) needs it clear; all flags clear at the
-- start
abbrev signs : Place → ℕ → ℕ → Option Bool
signs pre t f = cond (eqb t 2) (some false) none
signs inc t f = none
signs post t f = cond (eqb t 1) (some true) none

abbrev tasks : Kind → ℕ → (ℕ → ℕ → Bool) → Plan
tasks k n o = record {
  tree = record { size = n; here = λ i. ltb i n; kind = λ i. cond (eqb i 0) k task; parent = λ i. 0 };
  conditions = record { flags = 1; sign = signs };
  order = o;
}

abbrev free : ℕ → ℕ → Bool
free a b = false

abbrev a_then_z : ℕ → ℕ → Bool
a_then_z a b = both (eqb a 1) (λ u. eqb b 2)

abbrev clear : ℕ → Bool
clear f = false

-- the search, under one name
unfoldable pub seeking : Unit {0}
unfolding computing count_below start_b next_b every_literal_b safe_b calm_b unless prefixed or_next first_below
    may_follow_b rest_in first_sequence refused23_b sequence_of
seeking = tt

-- Z goes first; a third task, which has no conditions, follows them (109)
z_first : (sequence_of (tasks all_of 3 free) clear ≡ inr (2 ∷ 1 ∷ []))
    × (sequence_of (tasks all_of 4 free) clear ≡ inr (2 ∷ 1 ∷ 3 ∷ []))
unfolding seeking
z_first = (refl, refl)

verdicts : (verdict (tasks all_of 3 free) clear ≡ OPEN)
    × (verdict (serial (tasks all_of 3 free) (2 ∷ 1 ∷ [])) clear ≡ CLEAR)
    × (verdict (serial (tasks all_of 3 free) (1 ∷ 2 ∷ [])) clear ≡ DOOMED)
unfolding computing ahead_b serial_order
verdicts = (refl, refl, refl)

-- the plan's own order stands against it: 24
no_sequence : sequence_of (tasks all_of 3 a_then_z) clear ≡ inl 24
unfolding seeking
no_sequence = refl

-- seven children pass, eight do not; nor do a task, a choice, an optional group as the root
too_many : (sequence_of (tasks all_of 8 free) clear ≡ inr (2 ∷ 1 ∷ 3 ∷ 4 ∷ 5 ∷ 6 ∷ 7 ∷ []))
    × (sequence_of (tasks all_of 9 free) clear ≡ inl 23)
unfolding seeking
too_many = (refl, refl)

no_all_of : (sequence_of (tasks task 1 free) clear ≡ inl 23) × (sequence_of (tasks any_of 3 free) clear ≡ inl 23)
    × (sequence_of (tasks optional 3 free) clear ≡ inl 23)
unfolding seeking
no_all_of = (refl, refl, refl)

-- A and Z unordered within the root's one child: no sequence helps
abbrev within : Plan
within = record {
  tree = record {
    size = 4;
    here = λ i. ltb i 4;
    kind = λ i. cond (ltb i 2) all_of task;
    parent = λ i. cond (eqb i 1) 0 1;
  };
  conditions = record { flags = 1; sign = λ k t. signs k (cond (eqb t 3) 1 (cond (eqb t 2) 2 t)) };
  order = free;
}

inner : (verdict within clear ≡ OPEN) × (sequence_of within clear ≡ inl 24)
unfolding seeking
inner = (refl, refl)
