-- The bytes that the finishes of a list leave, in one pass: the flags, then a 2 at each task. Assumes nothing.
use mathlib.Core.Path.{◌≡◌, refl, sym, ap, ◌∙◌}
use mathlib.Core.Logic.{by_cases}
use native.Mathlib.Decide.{ℕ_discrete}
use mathlib.Core.List.{List, [], ◌∷◌, ◌++◌}
use Prim.Native.Nat.{ℕ, zero, suc, ◌+◌, ◌≤◌}
use native.Mathlib.Omega.{arith}
use lib.ListN.{length, take, drop, set, take-append-drop}
use lib.Seq.{take_at, drop_at, length-take-le, set_comm}
use Rattle.plan_rules.specs.Rules.{refusal}
use Rattle.runs.specs.Plan.{post, place_number}
use Rattle.runs.specs.Calls.{finishes, Rising}
use Rattle.runs.proofs.Calls.Listed.{rising_tail}
use Rattle.run_state.specs.Made.{made}
use Rattle.runs.specs.Searches.{listed}
use Rattle.node_sets.specs.One.{only}
use Rattle.run_conditions.proofs.Literals.{made_length}
use Rattle.run_conditions.proofs.OneByOne.{made_nil, made_cons}
use Rattle.run_step.specs.Steps.{with_event, after_all}

-- z with a 2 at each number of a list
unfoldable pub all_done_of : List ℕ → List ℕ → List ℕ
all_done_of [] z = z
all_done_of (t ∷ ts) z = set (all_done_of ts z) t 2

-- writing past the first n
set_past : (p q : List ℕ) (n t x : ℕ) → length p ≡ n → set (p ++ q) (n + t) x ≡ p ++ set q t x
set_past [] q n t x e = let k : n + t ≡ t = omega (arith, e) in rw k
set_past (y ∷ p) q zero t x e = absurd (omega (arith, e))
set_past (y ∷ p) q (suc n) t x e =
    let k : suc n + t ≡ suc (n + t) = omega arith in
    rw k (ap (λ (l : List ℕ). y ∷ l) (set_past p q n t x (omega (arith, e))))

-- no task is done; one more is, in any order
pub nothing_done : (z : List ℕ) → take 8 z ++ all_done_of [] (drop 8 z) ≡ z
unfolding all_done_of
nothing_done z = take-append-drop 8 z

either_first : (z : List ℕ) (t y : ℕ) → set (set z t 2) y 2 ≡ set (set z y 2) t 2
either_first z t y = by_cases (ℕ_discrete t y) (λ (e : t ≡ y). rw e) (λ e. set_comm z t y 2 2 e)

done_next : (ts : List ℕ) (t : ℕ) (z : List ℕ) → all_done_of (ts ++ t ∷ []) z ≡ set (all_done_of ts z) t 2
unfolding all_done_of
done_next [] t z = refl
done_next (y ∷ ts) t z = ap (λ (l : List ℕ). set l y 2) (done_next ts t z) ∙ either_first (all_done_of ts z) t y

pub done_more : (z ts : List ℕ) (t : ℕ) → 8 ≤ length z
    → take 8 z ++ all_done_of (ts ++ t ∷ []) (drop 8 z) ≡ set (take 8 z ++ all_done_of ts (drop 8 z)) (8 + t) 2
done_more z ts t l = ap (λ (y : List ℕ). take 8 z ++ y) (done_next ts t (drop 8 z))
    ∙ sym (set_past (take 8 z) (all_done_of ts (drop 8 z)) 8 t 2 (length-take-le 8 z l))

-- one finish more
with_more : (b p q : List ℕ) (t : ℕ) → length p ≡ 8
    → with_event b (place_number post) t 2 (p ++ q) ≡ made b (place_number post) (only t) p ++ set q t 2
unfolding with_event
with_more b p q t e = rw (take_at p q 8 e, drop_at p q 8 e)
    (set_past (made b (place_number post) (only t) p) q 8 t 2 (made_length b (place_number post) (only t) p ∙ e))

module _ (b s : List ℕ) (accepted : refusal b ≡ 0) (long : 8 ≤ length s) where
  abbrev flags : List ℕ → List ℕ
  flags ts = made b (place_number post) (listed ts) (take 8 s)

  flags_eight : (ts : List ℕ) → length (flags ts) ≡ 8
  flags_eight ts = made_length b (place_number post) (listed ts) (take 8 s) ∙ length-take-le 8 s long

  finishes_written : (ts : List ℕ) → Rising ts → flags ts ++ all_done_of ts (drop 8 s) ≡ after_all b s (finishes ts)
  unfolding all_done_of
  finishes_written [] r = ap (λ (p : List ℕ). p ++ drop 8 s) (made_nil b accepted (place_number post) (take 8 s))
      ∙ take-append-drop 8 s
  finishes_written (t ∷ ts) r = ap (λ (p : List ℕ). p ++ set (all_done_of ts (drop 8 s)) t 2)
      (made_cons b accepted (place_number post) t ts r (take 8 s))
      ∙ sym (with_more b (flags ts) (all_done_of ts (drop 8 s)) t (flags_eight ts))
      ∙ ap (with_event b (place_number post) t 2) (finishes_written ts (rising_tail r))

  -- by what the loop has at hand
  pub all_written : (ts : List ℕ) → Rising ts → (z : List ℕ) → z ≡ flags ts ++ drop 8 s
      → take 8 z ++ all_done_of ts (drop 8 z) ≡ after_all b s (finishes ts)
  all_written ts r z e =
      rw (e, take_at (flags ts) (drop 8 s) 8 (flags_eight ts), drop_at (flags ts) (drop 8 s) 8 (flags_eight ts))
      (finishes_written ts r)
