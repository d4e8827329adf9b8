-- Sets of nodes: those of a list, those marked in a table. Assumes nothing.
use mathlib.Core.Path.{◌≡◌, refl, sym, ap, ◌∙◌, fun_ext}
use mathlib.Core.Logic.{by_cases}
use mathlib.Core.Bool.{Bool, true, false}
use mathlib.Core.List.Memᴰ.{not-nil as among_none}
use mathlib.Core.List.{List, [], ◌∷◌, ◌++◌, Memᴰ as Among}
use Prim.Native.Nat.{ℕ, ◌<◌}
use native.Mathlib.Decide.{ℕ_discrete, dec_lt}
use native.Mathlib.Omega.{arith}
use lib.ListN.{length, set, get_or-eq_default}
use lib.Seq.{get_or-set_same, get_or-set_other}
use lib.Dec.{eqb}
use borrow.Author.Tests.{eq-eqb, ne_eqb}
use Rattle.base.specs.Zeros.{Zeros}
use Rattle.runs.specs.Searches.{either, any_in, listed}
use Rattle.runs.proofs.Reflect.{true_T, T_true}
use Rattle.runs.proofs.Calls.Listed.{r_listed}
use Rattle.node_sets.specs.Sets.{marked}
use Rattle.node_sets.specs.One.{only}

pub listed_among : (ts : List ℕ) (x : ℕ) → listed ts x ≡ true → Among x ts
listed_among ts x y = (r_listed ts x).to (true_T _ y)

pub among_listed : (ts : List ℕ) (x : ℕ) → Among x ts → listed ts x ≡ true
among_listed ts x i = T_true _ ((r_listed ts x).from i)

pub nothing_listed : (x : ℕ) → listed [] x ≡ true → ⊥
nothing_listed x y = among_none (listed_among [] x y)

-- a table of zeros, and one mark more
pub marked_none : (table : List ℕ) → Zeros 128 table → marked table ≡ listed []
unfolding marked listed any_in
marked_none table z = fun_ext (λ x. by_cases (dec_lt x 128)
    (λ (l : x < 128). rw (z.zero x l))
    (λ l. rw (get_or-eq_default table 0 {n = x} (omega (arith, z.long)))))

pub marked_more : (table : List ℕ) (t : ℕ) → t < length table → (x : ℕ)
    → marked (set table t 1) x ≡ either (eqb x t) (λ u. marked table x)
unfolding marked either
marked_more table t l x = by_cases (ℕ_discrete x t)
    (λ (e : x ≡ t). rw (eq-eqb x t e, e, get_or-set_same table t 1 0 l))
    (λ e. rw (ne_eqb x t e, get_or-set_other table t x 1 0 e))

-- one number more at the end of a list
listed_more : (ts : List ℕ) (t x : ℕ) → listed (ts ++ (t ∷ [])) x ≡ either (eqb x t) (λ u. listed ts x)
unfolding listed any_in either
listed_more [] t x = refl
listed_more (y ∷ ts) t x = ap (λ (b : Bool). either (eqb x y) (λ u. b)) (listed_more ts t x)
    ∙ in_turn (eqb x y) (eqb x t) (any_in ts (eqb x))
  where
    in_turn : (v w z : Bool) → either v (λ u. either w (λ u. z)) ≡ either w (λ u. either v (λ u. z))
    in_turn true true z = refl
    in_turn true false z = refl
    in_turn false w z = refl

pub marked_next : (table : List ℕ) (t : ℕ) (ts : List ℕ) → t < length table → marked table ≡ listed ts
    → marked (set table t 1) ≡ listed (ts ++ (t ∷ []))
marked_next table t ts l h = fun_ext (λ x. rw h at (marked_more table t l x) ∙ sym (listed_more ts t x))

pub marked_only : (table : List ℕ) (t : ℕ) → Zeros 128 table → t < 128 → marked (set table t 1) ≡ only t
unfolding listed any_in either
marked_only table t z l = marked_next table t [] (omega (arith, z.long)) (marked_none table z)
    ∙ fun_ext (λ x. alone (eqb x t))
  where
    alone : (v : Bool) → either v (λ u. false) ≡ v
    alone true = refl
    alone false = refl
