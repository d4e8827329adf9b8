-- The table of a pass, turn by turn. Assumes nothing.
use mathlib.Core.Path.{◌≡◌, ap, ◌∙◌, sym}
use mathlib.Core.Logic.{by_cases}
use mathlib.Core.Bool.{Bool, true, false, cond}
use mathlib.Core.List.{List}
use Prim.Native.Nat.{ℕ, zero, suc, ◌+◌, ◌-◌, ◌<◌, ◌≤◌}
use native.Mathlib.Decide.{ℕ_discrete, dec_lt}
use native.Mathlib.Numerals.{add-one}
use native.Mathlib.Omega.{arith}
use lib.ListN.{length, get_or, set, replicate, length-replicate, get_or-replicate}
use lib.Seq.{get_or-set_same, get_or-set_other}
use lib.Dec.{eqb}
use borrow.Author.Tests.{eq-eqb, ne_eqb}
use Rattle.std.specs.Prelude.{Some, None}
use Rattle.std.proofs.lemmas.List.{get_or_past}
use Rattle.runs.specs.Searches.{any_below}
use Rattle.runs.proofs.Searches.{Unfound, search_starts, search_finds, search_goes_on, search_ends}
use Rattle.plan_rules_later.specs.declared.Step.{Step}
use Rattle.plan_rules_later.specs.Passes.{asked, written, refused_by}

-- entry k of the table after the first m of the steps s
unfoldable pub latest : (ℕ → Step) → ℕ → ℕ → ℕ
latest s zero k = 0
latest s (suc m) k = cond (written (s m).writes k) (s m).mark (latest s m k)

-- step x refuses by its entry of the table t
abbrev pub refused_at : Step → List ℕ → Bool
refused_at x t = refused_by x.asks (eqb (get_or t (asked x.asks) 0) x.mark)

unfoldable pub refuses : (ℕ → Step) → ℕ → Bool
refuses s m = refused_by (s m).asks (eqb (latest s m (asked (s m).asks)) (s m).mark)

-- the steps of n places from the last to the first
unfoldable pub backwards : ℕ → (ℕ → Step) → ℕ → Step
backwards n s m = s (n - 1 - m)

-- the table t after the first m of the steps s
abbrev pub Holds : (ℕ → Step) → ℕ → List ℕ → Type 0
Holds s m t = (k : ℕ) → get_or t k 0 ≡ latest s m k

blank : (n k : ℕ) → ◌≡◌ {A = ℕ} (get_or (replicate n 0) k 0) 0
blank n k =
    by_cases (dec_lt k n) (λ (l : k < n). get_or-replicate {A = ℕ} n k 0 0 l)
    (λ l. get_or_past (replicate n 0) k 0 (omega (arith, length-replicate {A = ℕ} n 0)))

asks : (s : ℕ → Step) (m : ℕ) (t : List ℕ) (x : Step) → x ≡ s m → Holds s m t → refused_at x t ≡ refuses s m
unfolding refuses
asks s m t x e h =
    ap (λ (v : ℕ). refused_by x.asks (eqb v x.mark)) (h (asked x.asks))
    ∙ ap (λ (y : Step). refused_by y.asks (eqb (latest s m (asked y.asks)) y.mark)) e

set_holds : (s : ℕ → Step) (m : ℕ) (t : List ℕ) (x : Step) (i : ℕ) → x ≡ s m → i < length t → Holds s m t
    → x.writes ≡ Some i → Holds s (m + 1) (set t i x.mark)
unfolding latest
set_holds s m t x i e n h w k =
    rw (add-one m, ← e, w)
    (by_cases (ℕ_discrete i k)
    (λ (q : i ≡ k). rw (eq-eqb i k q, ← q) (get_or-set_same t i x.mark 0 n))
    (λ q. rw (ne_eqb i k q) (get_or-set_other t i k x.mark 0 (λ p. q (sym p)) ∙ h k)))

kept_holds : (s : ℕ → Step) (m : ℕ) (t : List ℕ) (x : Step) → x ≡ s m → Holds s m t → x.writes ≡ None
    → Holds s (m + 1) t
unfolding latest
kept_holds s m t x e h w k = rw (add-one m, ← e, w) (h k)

-- of n places those from i on were tried, and none refuses; t is the table then
pub record Tried (n : ℕ) (s : ℕ → Step) (i : ℕ) (t : List ℕ) : Type 0 where
  pub unfound : Unfound n (refuses (backwards n s)) (n - i)
  pub holds : Holds (backwards n s) (n - i) t

pub tried_none : (n : ℕ) (s : ℕ → Step) → Tried n s n (replicate 256 0)
unfolding latest
tried_none n s =
    let z : n - n ≡ 0 = omega arith in
    record { unfound = rw z search_starts; holds = rw z (blank 256) }

-- place i - 1 is next, where the code has r for its test
module _ {n i : ℕ} {s : ℕ → Step} {t : List ℕ} {x : Step} {r : Bool} (h : Tried n s i t) (l : i ≤ n) (p : 0 < i)
    (e : x ≡ s (i - 1)) (y : r ≡ refused_at x t) where
  step_is : x ≡ backwards n s (n - i)
  unfolding backwards
  step_is = let z : n - 1 - (n - i) ≡ i - 1 = omega arith in rw z e

  test : r ≡ refuses (backwards n s) (n - i)
  test = y ∙ asks (backwards n s) (n - i) t x step_is h.holds

  pub tried_finds : r ≡ true → true ≡ any_below n (refuses (backwards n s))
  tried_finds q = search_finds h.unfound (omega arith) test q

  next : n - (i - 1) ≡ (n - i) + 1
  next = omega arith

  pub tried_keeps : r ≡ false → x.writes ≡ None → Tried n s (i - 1) t
  tried_keeps q w = record {
    unfound = rw next (search_goes_on h.unfound (omega arith) test q);
    holds = rw next (kept_holds (backwards n s) (n - i) t x step_is h.holds w);
  }

  pub tried_writes : {k : ℕ} → r ≡ false → x.writes ≡ Some k → k < length t → Tried n s (i - 1) (set t k x.mark)
  tried_writes {k} q w b = record {
    unfound = rw next (search_goes_on h.unfound (omega arith) test q);
    holds = rw next (set_holds (backwards n s) (n - i) t x k step_is b h.holds w);
  }

pub tried_all : {n : ℕ} {s : ℕ → Step} {t : List ℕ} → Tried n s 0 t → false ≡ any_below n (refuses (backwards n s))
tried_all {n} h = search_ends h.unfound (omega arith)
