-- The bytes of a list of members: 15 and 16 by tests, and 16 in 02's words. Assumes nothing.
use mathlib.Core.Path.{◌≡◌, refl, sym, ◌∙◌}
use mathlib.Core.Logic.{◌⊎◌, inl, inr, ◌↔◌, by_cases}
use mathlib.Core.Bool.{Bool, true, false, cond, not, ◌&&◌}
use mathlib.Core.List.{List}
use Prim.Native.Nat.{ℕ, ◌<◌, ◌≤◌}
use native.Mathlib.Decide.{ℕ_discrete}
use native.Mathlib.Omega.{arith}
use lib.Dec.{T, eqb, ltb, ltb→lt, lt→ltb}
use lib.ListN.{length, get_or}
use borrow.Author.Tests.{ne_eqb, lt-ltb, le-ltb}
use Rattle.base.proofs.First.{first_none, first_some, both_none}
use Rattle.base.proofs.Tests.{and_tests, or_tests, not_test, equal}
use Rattle.plan_format.specs.Format.{node_count, parent_of}
use Rattle.plan_rules.specs.Rules.{refusal}
use Rattle.plan_check.specs.Meaning.{plan_of}
use Rattle.runs.specs.Plan.{Child}
use Rattle.runs.specs.Searches.{any_below}
use Rattle.runs.specs.Tests.{both}
use Rattle.runs.specs.Model.Trees.{child_b}
use Rattle.runs.proofs.Reflect.{Reflects, r_map, r_any, r_lt}
use Rattle.runs.proofs.Plan.Reflect.{r_child}
use Rattle.member_list.specs.Members.{BadMembers, other_byte, stray_one, MembersPass}
use Rattle.member_list.specs.Model.{bad_member, members_refusal}

not_zero : (i : ℕ) → not (eqb i 0) ≡ ltb 0 i
not_zero i = by_cases (ℕ_discrete i 0) (λ (e : i ≡ 0). rw e refl)
    (λ n. rw (ne_eqb i 0 n, lt-ltb 0 i (omega (arith, n))) refl)

both_and : (a t : Bool) → (a && t) ≡ both a (λ u. t)
unfolding both
both_and true t = refl
both_and false t = refl

pub root_child_is : (b : List ℕ) (i : ℕ) → i < node_count b
    → (not (eqb i 0) && eqb (parent_of b i) 0) ≡ child_b (plan_of b) 0 i
unfolding child_b plan_of both
root_child_is b i l = rw (lt-ltb i (node_count b) l, not_zero i) (both_and (ltb 0 i) (eqb (parent_of b i) 0))

-- 15 and 16 one after another, and neither
abbrev checked : Bool → Bool → ℕ
checked a c = cond a 15 (cond c 16 0)

number_15 : {A : Type 0} (a c : Bool) → Reflects a A → (checked a c ≡ 15) ↔ A
number_15 true c r = (λ e. r.to tt, λ x. refl)
number_15 false true r = (λ e. absurd (omega (arith, e)), λ x. absurd (r.from x))
number_15 false false r = (λ e. absurd (omega (arith, e)), λ x. absurd (r.from x))

module _ {A C : Type 0} where
  number_16 : (a c : Bool) → Reflects a A → Reflects c C → (checked a c ≡ 16) ↔ ((¬ A) × C)
  number_16 true c r s = (λ e. absurd (omega (arith, e)), λ x. absurd (x.0 (r.to tt)))
  number_16 false true r s = (λ e. (r.from, s.to tt), λ x. refl)
  number_16 false false r s = (λ e. absurd (omega (arith, e)), λ x. absurd (s.from x.1))

  number_0 : (a c : Bool) → Reflects a A → Reflects c C → (checked a c ≡ 0) ↔ ((¬ A) × (¬ C))
  number_0 true c r s = (λ e. absurd (omega (arith, e)), λ x. absurd (x.0 (r.to tt)))
  number_0 false true r s = (λ e. absurd (omega (arith, e)), λ x. absurd (x.1 (s.to tt)))
  number_0 false false r s = (λ e. (r.from, s.from), λ x. refl)

-- 16 in 02's words
module _ (b ms : List ℕ) where
  -- what is wrong with a byte
  abbrev Wrong : ℕ → Type 0
  Wrong i = (1 < get_or ms i 0) ⊎ ((get_or ms i 0 ≡ 1) × (¬ Child (plan_of b) 0 i))

  r_wrong : (i : ℕ) → Reflects (bad_member b ms i) (Wrong i)
  unfolding bad_member
  r_wrong i = record { to = λ t. to ((or_tests great stray).1 t); from = λ x. (or_tests great stray).0 (from x) }
    where
      great : Bool
      great = ltb 1 (get_or ms i 0)

      stray : Bool
      stray = eqb (get_or ms i 0) 1 && not (child_b (plan_of b) 0 i)

      to : T great ⊎ T stray → Wrong i
      to (inl t) = inl (ltb→lt 1 (get_or ms i 0) t)
      to (inr t) = let (e, k) = (and_tests (eqb (get_or ms i 0) 1) (not (child_b (plan_of b) 0 i))).1 t in
          inr (
            (equal (get_or ms i 0) 1).0 e,
            λ h. (not_test (child_b (plan_of b) 0 i)).1 k ((r_child (plan_of b) 0 i).from h),
          )

      from : Wrong i → T great ⊎ T stray
      from (inl l) = inl (lt→ltb 1 (get_or ms i 0) l)
      from (inr (e, k)) = inr ((and_tests (eqb (get_or ms i 0) 1) (not (child_b (plan_of b) 0 i))).0 (
        (equal (get_or ms i 0) 1).1 e,
        (not_test (child_b (plan_of b) 0 i)).0 (λ t. k ((r_child (plan_of b) 0 i).to t)),
      ))

  pub r_members : Reflects (any_below (node_count b) (bad_member b ms)) (BadMembers b ms)
  r_members = r_map (λ x. to x.0 x.1 x.2, from) (r_any Wrong _ _ r_wrong)
    where
      to : (i : ℕ) → i < node_count b → Wrong i → BadMembers b ms
      to i l (inl m) = other_byte i l (λ e. omega (arith, m, e)) (λ e. omega (arith, m, e))
      to i l (inr (e, k)) = stray_one i l e k

      from : BadMembers b ms → (i : ℕ) × (i < node_count b) × Wrong i
      from (other_byte i l z o) = (i, l, inl (omega (arith, z, o)))
      from (stray_one i l e k) = (i, l, inr (e, k))

  room : (¬ (length ms < node_count b)) ↔ (node_count b ≤ length ms)
  room = (λ n. omega (arith, n), λ l k. omega (arith, l, k))

  -- the refusals, one after another
  pub plan_refused : {r : ℕ} → r ≡ refusal b → (r ≡ 0 → ⊥) → r ≡ members_refusal b ms
  unfolding members_refusal
  plan_refused e k = e ∙ first_some _ _ (λ z. k (e ∙ z))

  module _ (ok : refusal b ≡ 0) where
    pub list_short : length ms < node_count b → 15 ≡ members_refusal b ms
    unfolding members_refusal
    list_short l = rw (lt-ltb _ _ l) (first_none _ _ ok)

    module _ (l : node_count b ≤ length ms) where
      after_15 : {t : Bool} → any_below (node_count b) (bad_member b ms) ≡ t → cond t 16 0 ≡ members_refusal b ms
      unfolding members_refusal
      after_15 e = rw (le-ltb _ _ l, e) (first_none _ _ ok)

      pub list_bad : any_below (node_count b) (bad_member b ms) ≡ true → 16 ≡ members_refusal b ms
      list_bad e = after_15 e

      pub list_right : any_below (node_count b) (bad_member b ms) ≡ false → 0 ≡ members_refusal b ms
      list_right e = after_15 e

    -- and what each tells
    abbrev short : Bool
    short = ltb (length ms) (node_count b)

    abbrev bad : Bool
    bad = any_below (node_count b) (bad_member b ms)

    told : {k : ℕ} {A : Type 0} → (checked short bad ≡ k) ↔ A → (members_refusal b ms ≡ k) ↔ A
    unfolding members_refusal
    told i = let z = first_none (refusal b) (checked short bad) ok in (λ e. i.0 (z ∙ e), λ x. sym z ∙ i.1 x)

    pub is_15 : (members_refusal b ms ≡ 15) ↔ (length ms < node_count b)
    is_15 = told (number_15 short bad (r_lt _ _))

    pub is_16 : (members_refusal b ms ≡ 16) ↔ ((node_count b ≤ length ms) × BadMembers b ms)
    is_16 = let (to, from) = told (number_16 short bad (r_lt _ _) r_members) in
        (λ e. (room.0 (to e).0, (to e).1), λ x. from (room.1 x.0, x.1))

    passes : (members_refusal b ms ≡ 0) ↔ ((¬ (length ms < node_count b)) × (¬ BadMembers b ms))
    passes = told (number_0 short bad (r_lt _ _) r_members)

  pub members_pass : (members_refusal b ms ≡ 0) ↔ MembersPass b ms
  unfolding members_refusal
  members_pass = (
    λ e. let ok = (both_none (refusal b) _ e).0 in let (n, x) = (passes ok).0 e in
        record { accepted = ok; room = room.0 n; well_formed = x },
    λ h. (passes h.accepted).1 (room.1 h.room, h.well_formed),
  )
