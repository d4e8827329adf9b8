-- What a merged plan carries of a plan that obeys the rules obeys them. Assumes nothing.
use mathlib.Core.Path.{◌≡◌, refl, sym, ap, ◌∙◌}
use mathlib.Core.Logic.{◌≢◌, inl, inr, by_cases}
use Prim.Native.Nat.{ℕ, suc, ◌+◌, ◌<◌, ◌≤◌}
use native.Mathlib.Decide.{ℕ_discrete}
use native.Mathlib.Omega.{arith}
use Rattle.plan_codes.specs.Values.{flag_of, sign_of, place_of}
use Rattle.plan_rules.proofs.Rising.{Below}
use Rattle.plan_layout.specs.Fields.{Fields}
use Rattle.plan_layout.proofs.Valid.{Valid}
use Rattle.plan_merge.proofs.Fields.{Contains}

-- numbers shifted alike keep their order
rises_task : {x y a b : ℕ} (s : ℕ) → Below x y a b → Below (x + s) y (a + s) b
rises_task s (inl l) = inl (omega arith)
rises_task s (inr (e, l)) = inr (omega arith, l)

rises_pair : {x y a b : ℕ} (s : ℕ) → Below x y a b → Below (x + s) (y + s) (a + s) (b + s)
rises_pair s (inl l) = inl (omega arith)
rises_pair s (inr (e, l)) = inr (omega arith, omega arith)

module _ {m f : Fields} {s c k : ℕ} (h : Contains m f s c k) (v : Valid f) (past : 0 < s) (top : m.kind 0 ≡ 1) where
  -- node x of m is node i of f
  module _ (x i : ℕ) (e : x ≡ i + s) (l : i < f.sizes.nodes) where
    pub kind_contained : m.kind x ≤ 3
    kind_contained = omega (arith, h.kind x i e l, v.kinds i l)

    pub minutes_contained : m.minutes x ≤ 10080
    minutes_contained = omega (arith, h.minutes x i e l, v.few_minutes i l)

    pub none_contained : m.kind x ≢ 0 → m.minutes x ≡ 0
    none_contained z = h.minutes x i e l ∙ v.no_minutes i l (λ q. z (h.kind x i e l ∙ q))

    pub parent_contained : (m.parent x < x) × (m.kind (m.parent x) ≢ 0)
    parent_contained =
        by_cases (ℕ_discrete i 0)
        (λ (z : i ≡ 0). rw (h.root x (omega arith) v.some_node) (omega arith, λ y. omega (arith, top)))
        (λ z. let (a, b) = v.parents i (omega arith) l in
        rw (h.parent x i e (omega arith) l)
        (omega arith, λ y. b (sym (h.kind (f.parent i + s) (f.parent i) refl (omega arith)) ∙ y)))

    pub child_contained : m.kind x ≢ 0 → (j : ℕ) × (j < f.sizes.nodes) × (m.parent (j + s) ≡ x)
    child_contained z =
        let (j, b, q) = v.children i l (λ y. z (h.kind x i e l ∙ y)) in
        let ne : j ≢ 0 = λ y. omega (arith, ap f.parent y, v.root, v.limited.nodes) in
        (j, b, h.parent (j + s) j refl (omega arith) b ∙ omega arith)

  -- condition x of m is condition i of f
  module _ (x i : ℕ) (e : x ≡ i + c) (l : i < f.sizes.conditions) where
    pub task_contained : (s ≤ m.task x) × (m.task x < f.sizes.nodes + s) × (m.kind (m.task x) ≡ 0)
    task_contained = let (a, b) = v.on_task i l in
        rw (h.task x i e l) (omega arith, omega arith, h.kind (f.task i + s) (f.task i) refl a ∙ b)

    pub value_contained : (m.value x ≤ 383) × (flag_of (m.value x) < f.sizes.flags)
    value_contained = rw (h.value x i e l) (v.values i l)

    pub rising_contained : suc i < f.sizes.conditions
        → Below (m.task x) (m.value x) (m.task (suc x)) (m.value (suc x))
    rising_contained n =
        let q : suc x ≡ suc i + c = omega arith in
        rw (h.task x i e l, h.value x i e l, h.task (suc x) (suc i) q n, h.value (suc x) (suc i) q n)
        (rises_task s (v.rising i n))

    pub sign_contained : (y j : ℕ) → y ≡ j + c → j < f.sizes.conditions → m.task y ≡ m.task x
        → place_of (m.value y) ≡ place_of (m.value x) → flag_of (m.value y) ≡ flag_of (m.value x)
        → sign_of (m.value y) ≡ sign_of (m.value x)
    sign_contained y j q n t p g =
        let a = h.value x i e l in
        let b = h.value y j q n in
        rw (a, b)
        (v.one_sign i j l n (omega (arith, t, h.task x i e l, h.task y j q n)) (rw (a, b) at p) (rw (a, b) at g))

    pub post_contained : place_of (m.value x) ≡ 1 → (j : ℕ) × (j < f.sizes.conditions) × (m.task (j + c) ≡ m.task x)
        × (flag_of (m.value (j + c)) ≡ flag_of (m.value x)) × (place_of (m.value (j + c)) ≡ 2)
    post_contained p =
        let a = h.value x i e l in
        let (j, n, t, q, z) = v.inc_post i l (rw a at p) in
        let b = h.value (j + c) j refl n in
        (j, n, omega (arith, h.task x i e l, h.task (j + c) j refl n, t), rw (a, b) q, rw b z)

  -- order x of m is order j of f
  module _ (x j : ℕ) (e : x ≡ j + k) (l : j < f.sizes.orders) where
    pub siblings_contained : (s < m.earlier x) × (m.earlier x < m.later x) × (m.later x < f.sizes.nodes + s)
        × (m.parent (m.earlier x) ≡ m.parent (m.later x)) × (m.kind (m.parent (m.earlier x)) ≡ 1)
    siblings_contained =
        let (z, a, b, q, r) = v.siblings j l in
        let (d, t) = v.parents (f.earlier j) z (omega arith) in
        let px = h.parent (f.earlier j + s) (f.earlier j) refl z (omega arith) in
        let py = h.parent (f.later j + s) (f.later j) refl (omega arith) b in
        rw (h.earlier x j e l, h.later x j e l, px, py, q) (
          omega arith,
          omega arith,
          omega arith,
          refl,
          h.kind (f.parent (f.later j) + s) (f.parent (f.later j)) refl (omega arith) ∙ (rw q at r),
        )

    pub orders_contained : suc j < f.sizes.orders
        → Below (m.earlier x) (m.later x) (m.earlier (suc x)) (m.later (suc x))
    orders_contained n =
        let q : suc x ≡ suc j + k = omega arith in
        rw (h.earlier x j e l, h.later x j e l, h.earlier (suc x) (suc j) q n, h.later (suc x) (suc j) q n)
        (rises_pair s (v.rising_orders j n))
