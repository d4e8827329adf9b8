-- The words of the conditions while they are filled: they have the first i conditions. Assumes nothing.
use mathlib.Core.Path.{◌≡◌, refl, sym, ap, ◌∙◌}
use mathlib.Core.Logic.{◌⊎◌, inl, inr, ⊎_elim, by_cases, ◌↔◌}
use mathlib.Core.Bool.{Bool}
use mathlib.Core.List.{List}
use Prim.Native.Nat.{ℕ, ◌+◌, ◌*◌, ◌/◌, ◌%◌, ◌^◌, ◌<◌, ◌≤◌}
use native.Mathlib.Decide.{ℕ_discrete}
use native.Mathlib.Omega.{arith}
use lib.Bits.{bit_or}
use lib.ListN.{length, get_or, set, length-set}
use lib.Seq.{get_or-set_same, get_or-set_other}
use Rattle.base.specs.Words.{Says}
use Rattle.base.proofs.Bits.{one_shl}
use Rattle.base.proofs.Says.{says_map, says_eq, says_none, says_set}
use Rattle.plan_codes.specs.Values.{value_of}
use Rattle.plan_format.specs.Format.{cond_count, cond_node, cond_value}
use Rattle.plan_rules.specs.Rules.{refusal}
use Rattle.runs.specs.Plan.{Place, place_number, sign_number}
use Rattle.plan_check.specs.Meaning.{plan_of}
use Rattle.plan_check.proofs.Accepted.{clean}
use Rattle.runs.proofs.Plan.Numbers.{place_small, sign_small}
use Rattle.plan_check.proofs.Meaning.{means}
use Rattle.tables.specs.Represents.{RepresentsConditions}
use Rattle.base.specs.Zeros.{Zeros}

-- `1 << k` is added to word j
pub bit_added : (c : List ℕ) (j k : ℕ) → k < 64
    → set c j (bit_or (get_or c j 0) ((1 * 2 ^ k) % 2 ^ 64)) ≡ set c j (bit_or (get_or c j 0) (2 ^ k))
bit_added c j k l = ap (λ (w : ℕ). set c j (bit_or (get_or c j 0) w)) (one_shl k l)

-- the value v of task t occurs: one of the first i conditions is it
pub record Occurs (b : List ℕ) (i t v : ℕ) : Type 0 where
  pub at : ℕ
  pub below : at < i
  pub node : cond_node b at ≡ t
  pub value : cond_value b at ≡ v

pub record Noted (b conds : List ℕ) (i : ℕ) : Type 0 where
  pub long : length conds ≡ 768
  pub says : (t w f : ℕ) → t < 128 → w < 6 → f < 64 → Says (get_or conds (t * 6 + w) 0) f (Occurs b i t (f + 64 * w))

pub noted_none : {b conds : List ℕ} → Zeros 768 conds → Noted b conds 0
noted_none z = record {
  long = z.long;
  says = λ t w f l m k. says_none (z.zero (t * 6 + w) (omega arith)) (λ a. omega (arith, a.below));
}

-- one of the first i + 1 is one of the first i or the next
occurs_more : (b : List ℕ) (i t v : ℕ)
    → (Occurs b i t v ⊎ ((cond_node b i ≡ t) × (cond_value b i ≡ v))) ↔ Occurs b (i + 1) t v
occurs_more b i t v = (to, from)
  where
    to : Occurs b i t v ⊎ ((cond_node b i ≡ t) × (cond_value b i ≡ v)) → Occurs b (i + 1) t v
    to (inl a) = record { at = a.at; below = omega (arith, a.below); node = a.node; value = a.value }
    to (inr e) = record { at = i; below = omega arith; node = e.0; value = e.1 }

    from : Occurs b (i + 1) t v → Occurs b i t v ⊎ ((cond_node b i ≡ t) × (cond_value b i ≡ v))
    from a =
        by_cases (ℕ_discrete i a.at) (λ (e : i ≡ a.at). inr (rw e a.node, rw e a.value))
        (λ n. inl (record { at = a.at; below = omega (arith, a.below); node = a.node; value = a.value }))

-- condition i is written
module _ {b c c' : List ℕ} {i x v : ℕ} (ex : x ≡ cond_node b i) (ev : v ≡ cond_value b i) (lx : x < 128) (lv : v ≤ 383)
    (h : Noted b c i)
    (e : c' ≡ set c (x * 6 + v / 64) (bit_or (get_or c (x * 6 + v / 64) 0) (2 ^ (v % 64)))) where
  here : (t w f : ℕ) → t < 128 → w < 6 → f < 64 → x * 6 + v / 64 ≡ t * 6 + w
      → Says (get_or c' (t * 6 + w) 0) f (Occurs b (i + 1) t (f + 64 * w))
  here t w f l m k q =
      let s = says_set {A = Occurs b i t (f + 64 * w)} (v % 64) refl (h.says t w f l m k) in
      let g : get_or c' (t * 6 + w) 0 ≡ bit_or (get_or c (t * 6 + w) 0) (2 ^ (v % 64)) =
      rw (e, q) (get_or-set_same c (t * 6 + w) (bit_or (get_or c (t * 6 + w) 0) (2 ^ (v % 64))) 0
      (omega (arith, h.long))) in
      says_eq g
      (says_map {B = Occurs b (i + 1) t (f + 64 * w)} (
        λ a. (occurs_more b i t (f + 64 * w)).0 (⊎_elim (λ y. inl y) (λ z. inr (omega arith, omega arith)) a),
        λ a. ⊎_elim (λ y. inl y) (λ z. inr (omega (arith, z.1))) ((occurs_more b i t (f + 64 * w)).1 a),
      )
      s)

  there : (t w f : ℕ) → t < 128 → w < 6 → f < 64 → (t * 6 + w ≡ x * 6 + v / 64 → ⊥)
      → Says (get_or c' (t * 6 + w) 0) f (Occurs b (i + 1) t (f + 64 * w))
  there t w f l m k n =
      let g : get_or c' (t * 6 + w) 0 ≡ get_or c (t * 6 + w) 0 =
      rw e
      (get_or-set_other c (x * 6 + v / 64) (t * 6 + w) (bit_or (get_or c (x * 6 + v / 64) 0) (2 ^ (v % 64))) 0 n) in
      says_eq g
      (says_map {B = Occurs b (i + 1) t (f + 64 * w)} (
        λ a. (occurs_more b i t (f + 64 * w)).0 (inl a),
        λ a. ⊎_elim (λ y. y) (λ z. absurd (n (omega (arith, z.0, z.1)))) ((occurs_more b i t (f + 64 * w)).1 a),
      )
      (h.says t w f l m k))

  pub noted_more : Noted b c' (i + 1)
  noted_more =
      record {
        long = rw e (length-set c _ _ ∙ h.long);
        says = λ t w f l m k. by_cases (ℕ_discrete (t * 6 + w) (x * 6 + v / 64))
            (λ (q : t * 6 + w ≡ x * 6 + v / 64). here t w f l m k (sym q)) (there t w f l m k);
      }

-- the word of a place and a sign
word_small : (k : Place) (v : Bool) → 2 * place_number k + sign_number v < 6
word_small k v = omega (arith, place_small k, sign_small v)

word_value : (k : Place) (v : Bool) (f : ℕ)
    → f + 64 * (2 * place_number k + sign_number v) ≡ value_of f (sign_number v) (place_number k)
word_value k v f = omega arith

pub noted_all : {b conds : List ℕ} → refusal b ≡ 0 → Noted b conds (cond_count b)
    → RepresentsConditions conds (plan_of b)
noted_all {b} r h =
    let a = means b r in
    record {
      says = λ t m s k v f l.
          says_map (
            λ w. (a.condition k t f v l).1 (record
                { at = w.at; below = w.below; node = w.node; value = w.value ∙ word_value k v f }),
            λ e. let w = (a.condition k t f v l).0 e in
                record { at = w.at; below = w.below; node = w.node; value = w.value ∙ sym (word_value k v f) },
          )
          (h.says t (2 * place_number k + sign_number v) f
          (omega (arith, (a.accepted.nodes t).0 m, a.size, (clean b r).fits.limits.nodes)) (word_small k v) l);
    }
