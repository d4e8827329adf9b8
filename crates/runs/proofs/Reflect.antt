-- Tests reflect what they test. `Reflects b A`: the test b is true exactly if A holds. The laws named `r-x` are
-- gathered in the ruleset `reflection`.
use Rattle.runs.proofs.Base.{◌≡◌, refl, ap, ◌⊎◌, inl, inr, ◌↔◌, Bool, true, false, not, decide, Option, none}
use Rattle.runs.proofs.Base.{some, List, [], ◌∷◌, ℕ, zero, suc, ◌<◌, arith, ℕ_discrete, T, eqb, ltb, eqb→eq}
use Rattle.runs.proofs.Base.{eqb_refl, ltb→lt, lt→ltb}
use Rattle.runs.specs.Tests.{both, implies, negate, all_below, same_b, same_list, is_none, is_some}
use Rattle.runs.specs.Searches.{either, any_below}

-- two constructors are equal: `clash cc`
pub clash : {A : Type 0} → ◌≡◌ {A = ℕ} 0 1 → A
clash q = absurd (omega arith)

pub not_not : (v : Bool) → not (not v) ≡ v
not_not true = refl
not_not false = refl

pub record Reflects (b : Bool) (A : Type 0) : Type 0 where
  pub to : T b → A
  pub from : A → T b

module _ {b : Bool} {A : Type 0} where
  pub r_map : {B : Type 0} → A ↔ B → Reflects b A → Reflects b B
  r_map e r = record { to = λ t. e.0 (r.to t); from = λ x. r.from (e.1 x) }

  -- what a test reflects can be decided
  pub decided : Reflects b A → Dec A
  decided r = at b r.to r.from
    where
      at : (b : Bool) → (T b → A) → (A → T b) → Dec A
      at true to from = yes (to tt)
      at false to from = no from

-- what can be decided and is not false holds
pub force : {A : Type 0} → Dec A → ¬ ¬ A → A
force (yes x) k = x
force (no n) k = absurd (k n)

pub true_T : (t : Bool) → t ≡ true → T t
true_T true e = tt
true_T false e = clash cc

pub T_true : (t : Bool) → T t → t ≡ true
T_true true e = refl
T_true false e = absurd e

-- two tests that reflect the same are the same
pub same_test : {A : Type 0} (x y : Bool) → Reflects x A → Reflects y A → x ≡ y
same_test true true r q = refl
same_test true false r q = absurd (q.from (r.to tt))
same_test false true r q = absurd (r.from (q.to tt))
same_test false false r q = refl

pub dec_or : {A B : Type 0} → Dec A → Dec B → Dec (A ⊎ B)
dec_or (yes a) d = yes (inl a)
dec_or (no k) (yes b) = yes (inr b)
dec_or {A} {B} (no k) (no l) = no neither
  where
    neither : A ⊎ B → ⊥
    neither (inl a) = k a
    neither (inr b) = l b

pub r_T : (b : Bool) → Reflects b (T b)
r_T b = record { to = λ t. t; from = λ t. t }

pub r_true : Reflects true (Unit {0})
r_true = record { to = λ t. t; from = λ t. t }

-- a test that is never true
pub r_false : {A : Type 0} → ¬ A → Reflects false A
r_false k = record { to = λ t. absurd t; from = k }

-- the second test need only be right where the first holds
pub r_guarded : {A B : Type 0} (b : Bool) (g : Unit {0} → Bool) → Reflects b A → (A → Reflects (g tt) B)
    → Reflects (both b g) (A × B)
unfolding both
r_guarded true g ra rb = record { to = λ t. (ra.to tt, (rb (ra.to tt)).to t); from = λ x. (rb x.0).from x.1 }
r_guarded false g ra rb = record { to = λ t. absurd t; from = λ x. ra.from x.0 }

pub r_implies : {A B : Type 0} (b : Bool) (g : Unit {0} → Bool) → Reflects b A → (A → Reflects (g tt) B)
    → Reflects (implies b g) (A → B)
unfolding implies
r_implies true g ra rb = record { to = λ t a. (rb a).to t; from = λ h. (rb (ra.to tt)).from (h (ra.to tt)) }
r_implies false g ra rb = record { to = λ t a. absurd (ra.from a); from = λ h. tt }

pub r_both : {A B : Type 0} (b : Bool) (g : Unit {0} → Bool) → Reflects b A → Reflects (g tt) B
    → Reflects (both b g) (A × B)
r_both b g ra rb = r_guarded b g ra (λ a. rb)

pub r_either : {A B : Type 0} (b : Bool) (g : Unit {0} → Bool) → Reflects b A → Reflects (g tt) B
    → Reflects (either b g) (A ⊎ B)
unfolding either
r_either {A} {B} true g ra rb = record { to = λ t. inl (ra.to tt); from = λ x. tt }
r_either {A} {B} false g ra rb = record { to = λ t. inr (rb.to t); from = back }
  where
    back : A ⊎ B → T (g tt)
    back (inl a) = absurd (ra.from a)
    back (inr b) = rb.from b

pub r_negate : {A : Type 0} (b : Bool) → Reflects b A → Reflects (negate b) (¬ A)
unfolding negate
r_negate true ra = record { to = λ t. absurd t; from = λ k. k (ra.to tt) }
r_negate false ra = record { to = λ t a. ra.from a; from = λ k. tt }

pub r_any : (P : ℕ → Type 0) (m : ℕ) (g : ℕ → Bool) → ((i : ℕ) → Reflects (g i) (P i))
    → Reflects (any_below m g) ((i : ℕ) × (i < m) × P i)
unfolding any_below
r_any P zero g r = record { to = λ t. absurd t; from = λ x. absurd (omega (arith, x.1)) }
r_any P (suc m) g r = r_map (up, down) (r_either (g m) (λ u. any_below m g) (r m) (r_any P m g r))
  where
    up : P m ⊎ ((i : ℕ) × (i < m) × P i) → (i : ℕ) × (i < suc m) × P i
    up (inl x) = (m, omega arith, x)
    up (inr (i, l, x)) = (i, omega arith, x)

    down : (i : ℕ) × (i < suc m) × P i → P m ⊎ ((i : ℕ) × (i < m) × P i)
    down (i, l, x) = at (ℕ_discrete i m)
      where
        at : Dec (i ≡ m) → P m ⊎ ((i : ℕ) × (i < m) × P i)
        at (yes e) = inl (rw e at x)
        at (no ne) = inr (i, omega arith, x)

pub r_all : (P : ℕ → Type 0) (m : ℕ) (g : ℕ → Bool) → ((i : ℕ) → Reflects (g i) (P i))
    → Reflects (all_below m g) ((i : ℕ) → i < m → P i)
unfolding all_below
r_all P zero g r = record { to = λ t i l. absurd (omega arith); from = λ x. tt }
r_all P (suc m) g r = r_map (up, λ h. (h m (omega arith), λ i l. h i (omega arith)))
    (r_both (g m) (λ u. all_below m g) (r m) (r_all P m g r))
  where
    up : P m × ((i : ℕ) → i < m → P i) → (i : ℕ) → i < suc m → P i
    up (x, h) i l = at (ℕ_discrete i m)
      where
        at : Dec (i ≡ m) → P i
        at (yes e) = rw e x
        at (no ne) = h i (omega arith)

pub r_decide : {A : Type 0} (d : Dec A) → Reflects (decide d) A
unfolding decide
r_decide (yes a) = record { to = λ t. a; from = λ x. tt }
r_decide (no k) = record { to = λ t. absurd t; from = λ x. k x }

pub r_eq : (a b : ℕ) → Reflects (eqb a b) (a ≡ b)
r_eq a b = record { to = eqb→eq a b; from = λ e. rw e (eqb_refl b) }

pub r_list : (l k : List ℕ) → Reflects (same_list l k) (l ≡ k)
unfolding same_list
r_list [] [] = record { to = λ t. refl; from = λ e. tt }
r_list [] (y ∷ k) = record { to = λ t. absurd t; from = λ e. clash cc }
r_list (x ∷ l) [] = record { to = λ t. absurd t; from = λ e. clash cc }
r_list (x ∷ l) (y ∷ k) = r_map (λ h. rw (h.0, h.1), λ e. (cc, cc))
    (r_both (eqb x y) (λ u. same_list l k) (r_eq x y) (r_list l k))

pub r_lt : (a b : ℕ) → Reflects (ltb a b) (a < b)
r_lt a b = record { to = ltb→lt a b; from = lt→ltb a b }

pub r_same : (u v : Bool) → Reflects (same_b u v) (u ≡ v)
unfolding same_b
r_same true true = record { to = λ t. refl; from = λ q. tt }
r_same true false = record { to = λ t. absurd t; from = λ q. clash cc }
r_same false true = record { to = λ t. absurd t; from = λ q. clash cc }
r_same false false = record { to = λ t. refl; from = λ q. tt }

pub r_none : (o : Option Bool) → Reflects (is_none o) (o ≡ none)
unfolding is_none
r_none none = record { to = λ t. refl; from = λ q. tt }
r_none (some u) = record { to = λ t. absurd t; from = λ q. clash cc }

pub r_some : (o : Option Bool) (v : Bool) → Reflects (is_some o v) (o ≡ some v)
unfolding is_some
r_some none v = record { to = λ t. absurd t; from = λ q. clash cc }
r_some (some u) v = r_map (ap some, λ q. cc) (r_same u v)

pub ruleset reflection = (r_both, r_either, r_negate, r_T, r_decide, r_eq, r_lt, r_same, r_none, r_some)
