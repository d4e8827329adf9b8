-- The literals of the tasks of a rising list are those of one task after another: conditions stand in the order of
-- their tasks. Assumes nothing.
use mathlib.Core.Path.{◌≡◌, refl, sym, ap, ◌∙◌}
use mathlib.Core.Logic.{⊎_elim}
use mathlib.Core.Bool.{true, false}
use mathlib.Core.List.{List, [], ◌∷◌}
use mathlib.Core.Option.{get_or}
use Prim.Native.Nat.{ℕ, zero, suc, ◌<◌, ◌≤◌}
use native.Mathlib.Omega.{arith}
use lib.ListN.{length}
use borrow.Author.Tests.{eqb-true}
use Rattle.run_flags.specs.Flags.{flag_in}
use Rattle.plan_format.specs.Format.{cond_count, cond_node}
use Rattle.plan_rules.specs.Rules.{refusal}
use Rattle.base.proofs.Booleans.{either, not_passed}
use Rattle.plan_rules.proofs.Rising.{nodes_rise}
use Rattle.plan_check.specs.Meaning.{plan_of, sign_in}
use Rattle.plan_check.proofs.Accepted.{clean}
use Rattle.runs.specs.Plan.{post, place_number}
use Rattle.runs.specs.Calls.{finishes, Rising, World, happen_all}
use Rattle.runs.specs.Searches.{any_in, listed}
use Rattle.runs.specs.Searches as tests
use Rattle.runs.proofs.Calls.Listed.{rising_above, rising_tail}
use Rattle.run_state.specs.Made.{is_of, literals, made}
use Rattle.node_sets.specs.One.{only}
use Rattle.node_sets.proofs.Sets.{listed_among, nothing_listed}
use Rattle.run_conditions.proofs.Literals.{literals_idle, made_length}
use Rattle.run_conditions.proofs.Signs.{of_set, made_flag}

-- ---- a condition of the first task of a list, and one of another
module _ (b : List ℕ) (q t : ℕ) (ts : List ℕ) (i : ℕ) where
  listed_head : only t (cond_node b i) ≡ true → is_of b q (listed (t ∷ ts)) i ≡ is_of b q (only t) i
  unfolding is_of listed any_in tests.either
  listed_head e = rw e

  listed_tail : only t (cond_node b i) ≡ false → is_of b q (listed (t ∷ ts)) i ≡ is_of b q (listed ts) i
  unfolding is_of listed any_in tests.either
  listed_tail e = rw e

only_other : (b : List ℕ) (q t i : ℕ) → only t (cond_node b i) ≡ false → is_of b q (only t) i ≡ false
unfolding is_of
only_other b q t i e = rw e

-- ---- the tasks of a rising list, one by one: conditions stand in the order of their tasks
module _ (b : List ℕ) (accepted : refusal b ≡ 0) (q : ℕ) where
  module _ (t : ℕ) (ts : List ℕ) (r : Rising (t ∷ ts)) where
    later : (x : ℕ) → listed ts x ≡ true → t < x
    later x y = rising_above r (listed_among ts x y)

    -- up to a condition of t there is none of a later task
    none_before : (k : ℕ) → k < cond_count b → only t (cond_node b k) ≡ true → (i : ℕ) → i ≤ k
        → is_of b q (listed ts) i ≡ false
    none_before k l e i m = not_passed _ (λ y. omega (
      arith,
      later _ (of_set b q (listed ts) i y).0,
      eqb-true (cond_node b k) t e,
      nodes_rise b (clean b accepted).rising i k m l,
    ))

    literals_cons : (k : ℕ) (bytes : List ℕ) → k ≤ cond_count b
        → literals b q (listed (t ∷ ts)) k bytes ≡ literals b q (only t) k (literals b q (listed ts) k bytes)
    unfolding literals
    literals_cons zero bytes l = refl
    literals_cons (suc k) bytes l =
        ⊎_elim
        (λ (e : only t (cond_node b k) ≡ true).
        let idle : (z : List ℕ) → literals b q (listed ts) k z ≡ z = λ z. literals_idle b q (listed ts) k z
        (λ i m. none_before k l e i (omega arith)) in
        rw (listed_head b q t ts k e, none_before k l e k (omega arith), idle bytes)
        (literals_cons k _ (omega arith) ∙ ap (literals b q (only t) k) (idle _)))
        (λ (e : only t (cond_node b k) ≡ false). rw (listed_tail b q t ts k e, only_other b q t k e)
        (literals_cons k _ (omega arith)))
        (either (only t (cond_node b k)))

  -- the list [], and one task more before the others
  pub made_nil : (bytes : List ℕ) → made b q (listed []) bytes ≡ bytes
  unfolding made
  made_nil bytes = literals_idle b q (listed []) (cond_count b) bytes (λ i l. not_passed _ (λ y. nothing_listed
      _ (of_set b q (listed []) i y).0))

  pub made_cons : (t : ℕ) (ts : List ℕ) → Rising (t ∷ ts) → (bytes : List ℕ)
      → made b q (listed (t ∷ ts)) bytes ≡ made b q (only t) (made b q (listed ts) bytes)
  unfolding made
  made_cons t ts r bytes = literals_cons t ts r (cond_count b) bytes (omega arith)

-- the flags after the finishes of a rising list are those of the states after them
pub left_flag : (b : List ℕ) → refusal b ≡ 0 → (ts : List ℕ) → Rising ts → (a : World) (bytes : List ℕ)
    → 8 ≤ length bytes → (f : ℕ) → a.flag f ≡ flag_in bytes f
    → (happen_all (plan_of b) a (finishes ts)).flag f ≡ flag_in (made b (place_number post) (listed ts) bytes) f
unfolding plan_of
left_flag b acc [] r a bytes long f e = e ∙ sym (ap (λ (x : List ℕ). flag_in x f) (made_nil b acc _ bytes))
left_flag b acc (t ∷ ts) r a bytes long f e =
    ap (get_or (sign_in b post t f)) (left_flag b acc ts (rising_tail r) a bytes long f e)
    ∙ sym (ap (λ (x : List ℕ). flag_in x f) (made_cons b acc _ t ts r bytes)
    ∙ made_flag b acc post t _ (omega (arith, made_length b (place_number post) (listed ts) bytes)) f)
