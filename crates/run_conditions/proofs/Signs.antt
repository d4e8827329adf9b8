-- The condition of a place, a task and a flag: it gives its sign, and the literals of one event leave that sign
-- (`made_flag`). Assumes nothing.
use mathlib.Core.Path.{◌≡◌, refl, sym, ap, ◌∙◌}
use mathlib.Core.Logic.{by_cases}
use mathlib.Core.Bool.{Bool, true}
use mathlib.Core.List.{List}
use mathlib.Core.Option.{Option, some, none, get_or}
use Prim.Native.Nat.{ℕ, ◌/◌, ◌%◌, ◌<◌, ◌≤◌}
use native.Mathlib.Decide.{ℕ_discrete}
use native.Mathlib.Omega.{arith}
use lib.ListN.{length}
use lib.Dec.{eqb}
use borrow.Author.Tests.{eqb-true, eq-eqb, ne_eqb}
use Rattle.plan_codes.specs.Values.{flag_of, sign_of, place_of}
use Rattle.run_flags.specs.Flags.{flag_in}
use Rattle.plan_format.specs.Format.{cond_count, cond_node, cond_value}
use Rattle.plan_rules.specs.Rules.{refusal}
use Rattle.base.proofs.Booleans.{and_both, and_of}
use Rattle.plan_check.specs.Meaning.{sign_in}
use Rattle.plan_check.proofs.Accepted.{clean}
use Rattle.plan_check.proofs.Meaning.{is, has, sign_is, sign_has}
use Rattle.runs.specs.Plan.{Place, place_number, sign_number}
use Rattle.runs.proofs.Reflect.{clash}
use Rattle.run_state.specs.Made.{is_of, set_at, literals, made}
use Rattle.node_sets.specs.One.{only}
use Rattle.run_conditions.proofs.Literals.{literals_keep, literals_same}

-- ---- the condition of a place, a task and a flag
is_sign : (b : List ℕ) (i : ℕ) → sign_of (cond_value b i) ≡ sign_number (set_at b i)
unfolding sign_of set_at
is_sign b i =
    by_cases (ℕ_discrete (cond_value b i / 64 % 2) 1)
    (λ (e : cond_value b i / 64 % 2 ≡ 1). rw e)
    (λ e. rw (ne_eqb (cond_value b i / 64 % 2) 1 e) (omega arith))

pub of_set : (b : List ℕ) (q : ℕ) (M : ℕ → Bool) (i : ℕ) → is_of b q M i ≡ true
    → (M (cond_node b i) ≡ true) × (place_of (cond_value b i) ≡ q)
unfolding is_of
of_set b q M i y = let w = and_both (M (cond_node b i)) (eqb (place_of (cond_value b i)) q) y in
    (w.0, eqb-true _ _ w.1)

pub set_of : (b : List ℕ) (q : ℕ) (M : ℕ → Bool) (i : ℕ) → M (cond_node b i) ≡ true → place_of (cond_value b i) ≡ q
    → is_of b q M i ≡ true
unfolding is_of
set_of b q M i n p = and_of (M (cond_node b i)) (eqb (place_of (cond_value b i)) q) n (eq-eqb _ _ p)

pub of_is : (b : List ℕ) (q t i : ℕ) → is_of b q (only t) i ≡ true
    → (cond_node b i ≡ t) × (place_of (cond_value b i) ≡ q)
of_is b q t i y = let w = of_set b q (only t) i y in (eqb-true _ _ w.0, w.1)

pub is_of_lem : (b : List ℕ) (q t i : ℕ) → cond_node b i ≡ t → place_of (cond_value b i) ≡ q
    → is_of b q (only t) i ≡ true
is_of_lem b q t i n p = set_of b q (only t) i (eq-eqb _ _ n) p

one_sign : {o : Option Bool} {x y : Bool} → o ≡ some x → o ≡ some y → x ≡ y
one_sign p q = cc

module _ (b : List ℕ) (accepted : refusal b ≡ 0) (k : Place) (t : ℕ) where
  -- a condition gives its sign
  pub sign_at : (i : ℕ) → i < cond_count b → is_of b (place_number k) (only t) i ≡ true
      → sign_in b k t (flag_of (cond_value b i)) ≡ some (set_at b i)
  sign_at i l y =
      let w = of_is b (place_number k) t i y in
      sign_has b k t (flag_of (cond_value b i)) (clean b accepted).signs (set_at b i)
      (has b (place_number k) t (flag_of (cond_value b i)) (sign_number (set_at b i)) i
      (record { below = l; node = w.0; place = w.1; flag = refl; sign = is_sign b i }))

  -- and a sign has its condition
  pub record Found (f : ℕ) (v : Bool) : Type 0 where
    pub at : ℕ
    pub below : at < cond_count b
    pub of : is_of b (place_number k) (only t) at ≡ true
    pub flag : flag_of (cond_value b at) ≡ f
    pub sign : set_at b at ≡ v

  pub found : (f : ℕ) (v : Bool) → sign_in b k t f ≡ some v → Found f v
  found f v e =
      let w = is b (place_number k) t f (sign_number v) (sign_is b k t f v e) in
      let o = is_of_lem b (place_number k) t w.0 w.1.node w.1.place in
      record {
        at = w.0;
        below = w.1.below;
        of = o;
        flag = w.1.flag;
        sign = one_sign (rw w.1.flag at (sign_at w.0 w.1.below o)) e;
      }

  -- the flags after the event's literals
  pub made_flag : (bytes : List ℕ) → 8 ≤ length bytes → (f : ℕ)
      → flag_in (made b (place_number k) (only t) bytes) f ≡ get_or (sign_in b k t f) (flag_in bytes f)
  unfolding made
  made_flag bytes long f = at (sign_in b k t f) refl
    where
      sign_here : (i : ℕ) → i < cond_count b → is_of b (place_number k) (only t) i ≡ true → f ≡ flag_of (cond_value b i)
          → sign_in b k t f ≡ some (set_at b i)
      sign_here i l y e = ap (sign_in b k t) e ∙ sign_at i l y

      never : {x : Bool} {o : Option Bool} → o ≡ none → o ≡ some x → ⊥
      never p q = clash cc

      at : (o : Option Bool) → sign_in b k t f ≡ o
          → flag_in (literals b (place_number k) (only t) (cond_count b) bytes) f ≡ get_or o (flag_in bytes f)
      at none e = literals_keep b (place_number k) (only t) f (flag_in bytes f) (cond_count b) bytes long refl
          (λ i l y z. absurd (never e (sign_here i l y z)))
      at (some v) e =
          let w = found f v e in
          literals_same b (place_number k) (only t) f v (cond_count b) w.at bytes long w.below w.of
          (sym w.flag) (λ i l y z. one_sign (sign_here i l y z) e)
