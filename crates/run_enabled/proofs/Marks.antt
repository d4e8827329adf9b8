-- The marks along the way up from a task. Assumes nothing.
use mathlib.Core.Path.{◌≡◌, refl, sym, ap, ◌∙◌}
use mathlib.Core.Logic.{◌⊎◌, inl, inr, ⊎_elim, by_cases}
use mathlib.Core.List.{List}
use Prim.Native.Nat.{ℕ, ◌<◌}
use native.Mathlib.Decide.{ℕ_discrete}
use native.Mathlib.Omega.{arith}
use lib.ListN.{length, get_or, set, length-set}
use lib.Seq.{get_or-set_same, get_or-set_other}
use Rattle.plan_format.specs.Format.{node_count, parent_of}
use Rattle.plan_rules.specs.Rules.{refusal}
use Rattle.base.proofs.Booleans.{not_passed}
use Rattle.plan_check.specs.Meaning.{plan_of}
use Rattle.plan_check.proofs.Accepted.{clean}
use Rattle.plan_rules.proofs.Causes.{parent_group}
use Rattle.plan_check.proofs.Meaning.{means_well_formed}
use Rattle.plan_check.proofs.Nodes.{is_node}
use Rattle.runs.specs.Plan.{itself, below, Under}
use Rattle.runs.specs.WellFormed.{WellFormed}
use Rattle.runs.specs.Model.Trees.{under_b}
use Rattle.runs.proofs.Plan.Reflect.{r_under}
use Rattle.runs.proofs.Plan.Trees.{under_le, under_trans}
use Rattle.runs.proofs.Reflect.{true_T, T_true}
use Rattle.base.specs.Count.{num}
use Rattle.base.specs.Zeros.{Zeros}

-- a is n, or above its parent
pub up_or_here : (b : List ℕ) {a n : ℕ} → Under (plan_of b) a n → (a ≡ n) ⊎ Under (plan_of b) a (parent_of b n)
unfolding plan_of
up_or_here b itself = inl refl
up_or_here b (below z l u) = inr u

-- the parent of a node is one, of a lower number, and above what the node is above
module _ (b : List ℕ) (accepted : refusal b ≡ 0) where
  pub parent_lower : (n g : ℕ) → 0 < n → n < node_count b → g ≡ parent_of b n → g < n
  parent_lower n g z l e = let c = clean b accepted in omega (arith, e, (parent_group b c.fits c.parents n z l).0)

  pub parent_above : (n g : ℕ) {t : ℕ} → 0 < n → n < node_count b → g ≡ parent_of b n → Under (plan_of b) n t
      → Under (plan_of b) g t
  unfolding plan_of
  parent_above n g z l e u = under_trans (plan_of b) (below z (is_node b n l) (rw e itself)) u

-- the marks m, when the walk from t has reached n
abbrev pub Mark : List ℕ → ℕ → ℕ → List ℕ → ℕ → Type 0
Mark b t n m a = ((get_or m a 0 ≡ 1) × Under (plan_of b) a t)
    ⊎ ((get_or m a 0 ≡ 0) × (Under (plan_of b) a t → Under (plan_of b) a n × (a ≡ n → ⊥)))

abbrev pub Marked : List ℕ → ℕ → ℕ → List ℕ → Type 0
Marked b t n m = (length m ≡ 128) × ((a : ℕ) → a < 128 → Mark b t n m a)

module _ (b : List ℕ) (t : ℕ) where
  pub first_mark : (m : List ℕ) → Zeros 128 m → t < 128 → Marked b t t (set m t 1)
  first_mark m z k = (
    length-set m t 1 ∙ z.long,
    λ a q.
        by_cases (ℕ_discrete a t)
        (λ (e : a ≡ t). inl (rw e (get_or-set_same m t 1 0 (omega (arith, z.long))), rw e itself))
        (λ e. inr (get_or-set_other m t a 1 0 e ∙ z.zero a q, λ u. (u, e))),
  )

  pub next_mark : (n g : ℕ) (m : List ℕ) → g ≡ parent_of b n → g < 128 → Under (plan_of b) g t → Marked b t n m
      → Marked b t g (set m g 1)
  next_mark n g m e k v h = (
    length-set m g 1 ∙ h.0,
    λ a q.
        by_cases (ℕ_discrete a g)
        (λ (z : a ≡ g). inl (rw z (get_or-set_same m g 1 0 (omega (arith, h.0))), rw z v))
        (λ z. let o = get_or-set_other m g a 1 0 z in
        ⊎_elim
        (λ x. inl (o ∙ x.0, x.1))
        (λ x. inr (
          o ∙ x.0,
          λ u. let y = x.1 u in
              (⊎_elim (λ w. absurd (y.1 w)) (λ w. rw e w) (up_or_here b y.0), z),
        ))
        (h.1 a q)),
  )

  pub last_mark : refusal b ≡ 0 → (m : List ℕ) → Marked b t 0 m → (a : ℕ) → a < 128
      → get_or m a 0 ≡ num (under_b (plan_of b) a t)
  last_mark acc m h a q =
      let w : WellFormed (plan_of b) = means_well_formed b acc in
      ⊎_elim
      (λ x. x.0 ∙ ap num (sym (T_true (under_b (plan_of b) a t) ((r_under (plan_of b) w a t).from x.1))))
      (λ x. x.0 ∙ ap num (sym (not_passed (under_b (plan_of b) a t)
      (λ y. let u = x.1 ((r_under (plan_of b) w a t).to (true_T (under_b (plan_of b) a t) y)) in
      u.1 (omega (arith, under_le (plan_of b) w u.0))))))
      (h.1 a q)
