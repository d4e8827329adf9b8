-- What a pass backwards finds: whether a later place has written the mark that is asked. Assumes nothing.
use mathlib.Core.Path.{◌≡◌, refl, ap, ◌∙◌, sym}
use mathlib.Core.Logic.{⊎_elim}
use mathlib.Core.Bool.{Bool, true, false, true≢false}
use Prim.Native.Nat.{ℕ, zero, suc, ◌-◌, ◌<◌, ◌≤◌}
use native.Mathlib.Nat.{eq-or-lt_of_le, le_of_suc-le-suc}
use native.Mathlib.Omega.{arith}
use lib.Dec.{eqb}
use borrow.Author.Tests.{eqb-true, eq-eqb}
use Rattle.std.specs.Prelude.{Option, Some, None, is_some}
use Rattle.plan_rules_later.specs.declared.Ask.{Ask}
use Rattle.plan_rules_later.specs.declared.Step.{Step}
use Rattle.plan_rules_later.specs.Passes.{asked, written, refused_by, answers, judged, InOrder}
use Rattle.plan_rules_later.proofs.Table.{latest, refuses, backwards}
use Rattle.runs.specs.Searches.{any_below}
use Rattle.base.proofs.Booleans.{either, same, and_both, and_of}
use Rattle.runs.proofs.Searches.{found_at, some_yes, some_same, some_back}

-- ---- the table
module _ (s : ℕ → Step) where
  -- an entry with a mark has it from an earlier step
  given : (m k v : ℕ) → 0 < v → latest s m k ≡ v
      → (j : ℕ) × (j < m) × (written (s j).writes k ≡ true) × ((s j).mark ≡ v)
  unfolding latest
  given zero k v p e = absurd (omega arith)
  given (suc m) k v p e =
      ⊎_elim
      (λ (t : written (s m).writes k ≡ true). (m, omega arith, t, rw t at e))
      (λ (t : written (s m).writes k ≡ false). let w = given m k v p (rw t at e) in (w.0, omega arith, w.2, w.3))
      (either (written (s m).writes k))

  -- and keeps it while the steps have the same mark
  stays : (j m k v : ℕ) → j < m → written (s j).writes k ≡ true → ((i : ℕ) → j ≤ i → i < m → (s i).mark ≡ v)
      → latest s m k ≡ v
  unfolding latest
  stays j zero k v l w h = absurd (omega arith)
  stays j (suc m) k v l w h =
      ⊎_elim
      (λ (t : written (s m).writes k ≡ true). rw t (h m (omega arith) (omega arith)))
      (λ (t : written (s m).writes k ≡ false).
      rw t
      (⊎_elim
      (λ (e : j ≡ m). absurd (true≢false (sym w ∙ ap (λ (i : ℕ). written (s i).writes k) e ∙ t)))
      (λ (q : j < m). stays j m k v q w (λ i b c. h i b (omega arith)))
      (eq-or-lt_of_le (le_of_suc-le-suc l))))
      (either (written (s m).writes k))

-- ---- the pass
turned : (n i : ℕ) → i < n → n - 1 - (n - 1 - i) ≡ i
turned n i l = omega arith

-- only what is asked counts
same_refused : (a : Option Ask) (x y : Bool) → (is_some a ≡ true → x ≡ y) → refused_by a x ≡ refused_by a y
same_refused None x y h = refl
same_refused (Some a) x y h = ap (refused_by (Some a)) (h refl)

module _ (n : ℕ) (s : ℕ → Step) (o : InOrder n s) where
  entry : (i : ℕ) → i < n → is_some (s i).asks ≡ true
      → eqb (latest (backwards n s) (n - 1 - i) (asked (s i).asks)) (s i).mark ≡ any_below n (answers s i)
  unfolding backwards
  entry i l q =
      let k = asked (s i).asks in
      same (eqb (latest (backwards n s) (n - 1 - i) k) (s i).mark) (any_below n (answers s i))
      (λ y.
      let w = given (backwards n s) (n - 1 - i) k (s i).mark (o.positive i l) (eqb-true _ _ y) in
      let j = n - 1 - w.0 in
      some_yes n (answers s i) j (omega arith)
      (and_of (written (s j).writes k) (eqb (s j).mark (s i).mark) w.2 (eq-eqb _ _ w.3)))
      (λ y.
      let w = found_at n (answers s i) y in
      let j = w.0 in
      let a = and_both (written (s j).writes k) (eqb (s j).mark (s i).mark) w.2 in
      let g = o.later i j l w.1 q w.2 in
      eq-eqb (latest (backwards n s) (n - 1 - i) k) (s i).mark
      (stays (backwards n s) (n - 1 - j) (n - 1 - i) k (s i).mark (omega arith)
      (ap (λ (m : ℕ). written (s m).writes k) (turned n j w.1) ∙ a.0)
      (λ m u v. omega (
        arith,
        o.rises i (n - 1 - m) (omega arith) (omega arith),
        o.rises (n - 1 - m) j (omega arith) w.1,
        eqb-true (s j).mark (s i).mark a.1,
      ))))

  place : (i : ℕ) → i < n → refuses (backwards n s) (n - 1 - i) ≡ judged n s i
  unfolding refuses backwards
  place i l =
      let found : Step → Bool = λ x. eqb (latest (backwards n s) (n - 1 - i) (asked x.asks)) x.mark in
      ap (λ (k : ℕ). refused_by (s k).asks (found (s k))) (turned n i l)
      ∙ same_refused (s i).asks (found (s i)) (any_below n (answers s i)) (entry i l)

  pub pass_finds : any_below n (refuses (backwards n s)) ≡ any_below n (judged n s)
  pass_finds =
      some_same n (refuses (backwards n s)) (λ m. refuses (backwards n s) (n - 1 - (n - 1 - m)))
      (λ m l. ap (λ (k : ℕ). refuses (backwards n s) k) (sym (turned n m l)))
      ∙ some_back n (λ i. refuses (backwards n s) (n - 1 - i))
      ∙ some_same n (λ i. refuses (backwards n s) (n - 1 - i)) (judged n s) place
