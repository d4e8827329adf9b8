-- What `any` answers. Assumes nothing.
use mathlib.Core.Path.{◌≡◌, refl, sym, ap, ◌∙◌}
use mathlib.Core.Bool.{Bool, true, false, ◌||◌}
use mathlib.Core.List.{List, [], ◌∷◌, Memᴰ as Among}
use mathlib.Core.List.Memᴰ.{head as here}
use mathlib.Core.List.Memᴰ.{tail as there}
use Prim.Native.Nat.{ℕ, zero, suc, ◌<◌}
use native.Mathlib.Omega.{arith}
use denote.Param.Members.{Mut}
use lib.ListN.{length, get_or}
use Rattle.std.proofs.Common.{Bor}
use Rattle.std.specs.Fn.{Called}
use Rattle.std.specs.Bool.{MatchBool}
use Rattle.std.proofs.lemmas.List.FromFn.{length-range_with_len, get_or-range_with_len}
use Rattle.std.specs.Iterator.{YieldsThen}
use Rattle.std.specs.List.{FoldsTo, list_any, range_with_len, HoldsAt, AllWithin}
use Rattle.std.specs.Option.{MatchOption}
use Rattle.std.proofs.iter.Yields.{fronts, nat_range_steps}
use Rattle.std.specs.declared.ops.Range.{Range}
use Rattle.std.specs.declared.option.Option.{Option}
use Rattle.std.proofs.lemmas.Iterator.{YieldsList-from_range, YieldsList-from_slice, cases_from_any}
use Rattle.std.proofs.lemmas.Iterator.Search.{any_from_yields_List}
use Rattle.std.specs.Slice.Iter.{iter_rest}
use Rattle.std.proofs.Common.{Iter}
use Rattle.runs.specs.Searches.{either, any_below, any_in}
use Rattle.runs.proofs.Searches.{some_yes, none_all}

-- a yes or a no about each number of a list
settle : (r : Bool) (n : ℕ) (p : ℕ → Bool)
    → MatchBool r ((k : ℕ) × (k < length (range_with_len 0 n)) × HoldsAt (λ x. p x ≡ true) (range_with_len 0 n) k)
    (AllWithin (λ x. p x ≡ false) (range_with_len 0 n) 0 (length (range_with_len 0 n)))
    → r ≡ any_below n p
settle true n p w =
    let e = length-range_with_len 0 n in
    let l : w.0 < n = rw e at w.1 in
    let v : get_or (range_with_len 0 n) w.0 0 ≡ w.0 = get_or-range_with_len 0 n w.0 0 l ∙ omega arith in
    sym (some_yes n p w.0 l (rw v at (w.2 0)))
settle false n p w = sym (none_all n p (λ k l.
    let e = length-range_with_len 0 n in
    let m : k < length (range_with_len 0 n) = rw e l in
    let v : get_or (range_with_len 0 n) k 0 ≡ k = get_or-range_with_len 0 n k 0 l ∙ omega arith in
    rw v at (w k 0 (omega arith) m)))

-- the library's search in a list is that of `runs`
either_or : (a b : Bool) → a || b ≡ either a (λ u. b)
unfolding either
either_or true b = refl
either_or false b = refl

list_any_in : (xs : List ℕ) (p : ℕ → Bool) → list_any p xs ≡ any_in xs p
unfolding any_in
list_any_in [] p = refl
list_any_in (x ∷ xs) p = either_or (p x) (list_any p xs)
    ∙ ap (λ (b : Bool). either (p x) (λ u. b)) (list_any_in xs p)

-- what `any` answered, by its clause `ran`: it stopped at the first item on which the closure said yes
abbrev pub AnyRan : {F A S : Type 0} → Mut F (A × Unit {0}) Bool → (S → Option A → S → Type 0) → F → S → S → Bool
    → Type 0
AnyRan {F} {A} g steps f s u r = (xs : List A) × (o : Option A) × (j : F) × YieldsThen steps s xs o u
    × FoldsTo (λ p x q. Called g p (x, tt) false q) f xs j
    × MatchOption o (r ≡ false) (λ x. (r ≡ true) × ((h : F) × Called g j (x, tt) true h))

module _ {F : Type 0} {f : F} {r : Bool} where
  -- over the numbers below n
  pub any_numbers : {g : Mut F (ℕ × Unit {0}) Bool} {s u : Range ℕ} (n : ℕ) (p : ℕ → Bool)
      → s ≡ record { start = 0; end = n } → AnyRan g nat_range_steps f s u r
      → ((x : ℕ) (b : Bool) (q : F) → Called g f (x, tt) b q → (q ≡ f) × (b ≡ p x)) → r ≡ any_below n p
  any_numbers n p e h k = settle r n p (cases_from_any _ _ _ (λ x. p x ≡ true) (λ x. p x ≡ false) h
      (YieldsList-from_range 0 n n e (omega arith)) (λ x q c. sym (k x true q c).1)
      (λ x q c. ((k x false q c).0, sym (k x false q c).1)))

  -- over a list
  pub any_listed : {g : Mut F (Bor ℕ × Unit {0}) Bool} {s u : Iter ℕ} (l : List ℕ) (p : ℕ → Bool)
      → iter_rest s ≡ l → AnyRan g fronts f s u r
      → ((x : Bor ℕ) (b : Bool) (q : F) → Called g f (x, tt) b q → (q ≡ f) × (b ≡ p x.now)) → r ≡ any_in l p
  any_listed l p e h k = any_from_yields_List p _ _ _ h (YieldsList-from_slice l e) k ∙ list_any_in l p

-- what stands in a list is one of its numbers
pub listed_at : (l : List ℕ) {x : ℕ} (k : ℕ) → k < length l → x ≡ get_or l k x → Among x l
listed_at [] k m e = absurd (omega arith)
listed_at (y ∷ l) zero m e = here e
listed_at (y ∷ l) (suc k) m e = there (listed_at l k (omega arith) e)
