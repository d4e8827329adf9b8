-- 02's words leave no choice: bytes that are the plan of a recipe have its fields (`generated_fields`), and no other
-- bytes are its plan (`generated_only`). Assumes nothing.
use mathlib.Core.Path.{◌≡◌, refl, sym, ap, ◌∙◌}
use mathlib.Core.Logic.{by_cases}
use mathlib.Core.Bool.{false}
use mathlib.Core.List.{List, [], ◌∷◌}
use Prim.Native.Nat.{ℕ, ◌+◌, ◌-◌, ◌*◌, ◌/◌, ◌%◌, ◌^◌, ◌<◌, ◌≤◌}
use native.Mathlib.Decide.{ℕ_discrete, dec_lt, dec_le}
use native.Mathlib.Omega.{arith}
use lib.ListN.{get_or}
use lib.Seq.{ext_get_or}
use borrow.Author.Tests.{eqb-false}
use Rattle.base.specs.Bytes.{Bytes}
use Rattle.base.proofs.Booleans.{not_passed}
use Rattle.base.proofs.Each.{each_at}
use Rattle.runs.specs.Plan.{pre, post, place_number}
use Rattle.plan_codes.specs.Values.{value_of}
use Rattle.plan_format.specs.Format.{cond_count, order_count, start_flag, name_char, name_of, cond_node, cond_value}
use Rattle.plan_format.specs.Format.{earlier_of}
use Rattle.plan_format.specs.Format.{later_of}
use Rattle.plan_format.specs.Pieces.{NodeIs}
use Rattle.plan_check.proofs.Accepted.{clean, start_below}
use Rattle.plan_layout.specs.Fields.{Laid}
use Rattle.plan_layout.proofs.Exact.{laid_byte}
use Rattle.plan_layout.proofs.Names.{four, same_four}
use Rattle.plan_draws.specs.declared.Recipe.{Recipe}
use Rattle.plan_draws.specs.Model.{kind_drawn, minutes_drawn, order_number, ordered_group, kind_in, minutes_in}
use Rattle.plan_draws.specs.Model.{value_in}
use Rattle.plan_draws.proofs.Drawn.{ByNumber, draws_only}
use Rattle.plan_draws.proofs.Fields.{kind_root, kind_drawn_lem, kind_task, minutes_group, minutes_drawn_lem, value_pre}
use Rattle.plan_draws.proofs.Fields.{value_post}
use Rattle.plan_generate.specs.Sentences.{IsGenerated}
use Rattle.plan_generate.specs.Model.{name_in, parent_in, generated}
use Rattle.plan_generate.proofs.Bytes.{name_group, name_task, root_chars, number_chars, parent_root}
use Rattle.plan_generate.proofs.Bytes.{parent_group, parent_task}
use Rattle.plan_generate.proofs.Sentences.{condition_count, orders_drawn_lem, order_count_lem, generated_long}

-- a byte without a bit
no_bits : (x : ℕ) → x < 256 → ((c : ℕ) → c < 8 → x / 2 ^ c % 2 ≡ 0) → x ≡ 0
no_bits x l h =
    let p : x < 128 = omega (arith, h 7 (omega arith)) in
    let q : x < 64 = omega (arith, h 6 (omega arith)) in
    let r : x < 32 = omega (arith, h 5 (omega arith)) in
    let s : x < 16 = omega (arith, h 4 (omega arith)) in
    let t : x < 8 = omega (arith, h 3 (omega arith)) in
    let u : x < 4 = omega (arith, h 2 (omega arith)) in
    let v : x < 2 = omega (arith, h 1 (omega arith)) in
    omega (arith, h 0 (omega arith))

module _ (r : Recipe) (b : List ℕ) (h : IsGenerated r b) (small : Bytes b) where
  drawn : ByNumber r h.draws
  drawn = draws_only r h.draws

  -- ---- nodes
  abbrev NodeIn : ℕ → Type 0
  NodeIn n = NodeIs b n (four (name_in r.groups) n) (parent_in r.groups n) (kind_in r n) (minutes_in r n)

  root_in : NodeIn 0
  root_in = let x = h.root in record {
    its_name = x.its_name ∙ root_chars r.groups;
    its_parent = x.its_parent ∙ parent_root r.groups 0 refl;
    its_kind = x.its_kind ∙ kind_root r 0 refl;
    its_minutes = x.its_minutes ∙ minutes_group r 0 (omega arith);
  }

  group_in : (i : ℕ) → i < r.groups → NodeIn (1 + i)
  group_in i l =
      let x = h.group i l in
      let e : 1 + i - 1 ≡ i = omega arith in
      record {
        its_name = x.its_name ∙ number_chars r.groups (1 + i) 71 (omega arith)
            (name_group r.groups (4 * (1 + i)) (omega arith) (omega arith) (omega arith));
        its_parent = x.its_parent ∙ parent_group r.groups (1 + i) (omega arith) (omega arith);
        its_kind = x.its_kind ∙ ap (λ (k : ℕ). 1 + k) (drawn.kind i l ∙ ap (kind_drawn r) (sym e))
            ∙ kind_drawn_lem r (1 + i) (omega arith) (omega arith);
        its_minutes = x.its_minutes ∙ minutes_group r (1 + i) (omega arith);
      }

  task_in : (j : ℕ) → j < r.tasks → NodeIn (1 + r.groups + j)
  task_in j l =
      let n = 1 + r.groups + j in
      let x = h.task j l in
      let e : n - 1 - r.groups ≡ j = omega arith in
      record {
        its_name = x.its_name ∙ number_chars r.groups n 84 (omega arith)
            (name_task r.groups (4 * n) (omega arith) (omega arith));
        its_parent = x.its_parent ∙ ap (λ (m : ℕ). 1 + m % r.groups) (sym e)
            ∙ parent_task r.groups n (omega arith);
        its_kind = x.its_kind ∙ kind_task r n (omega arith);
        its_minutes = x.its_minutes ∙ drawn.minutes j l ∙ ap (minutes_drawn r) (sym e)
            ∙ minutes_drawn_lem r n (omega arith);
      }

  node_in : (n : ℕ) → n < 1 + r.groups + r.tasks → NodeIn n
  node_in n l =
      by_cases (ℕ_discrete n 0) (λ (e : n ≡ 0). rw e root_in)
      (λ z. by_cases (dec_le n r.groups)
      (λ (m : n ≤ r.groups). let e : n ≡ 1 + (n - 1) = omega arith in rw e (group_in (n - 1) (omega arith)))
      (λ m. let e : n ≡ 1 + r.groups + (n - 1 - r.groups) = omega arith in
      rw e (task_in (n - 1 - r.groups) (omega arith))))

  name_in_lem : (k : ℕ) → k < 4 * (1 + r.groups + r.tasks) → name_char b k ≡ name_in r.groups k
  unfolding name_of
  name_in_lem k l = same_four (name_char b) (name_in r.groups) k (node_in (k / 4) (omega arith)).its_name

  -- ---- conditions
  abbrev pairs_of : ℕ → List (ℕ × ℕ)
  pairs_of j = (1 + r.groups + j, value_of (h.draws.flag j) (h.draws.pre j) (place_number pre))
      ∷ (1 + r.groups + j, value_of (h.draws.flag j) (h.draws.post j) (place_number post)) ∷ []

  -- condition i is number c of those of task j
  pair_of : (i j c : ℕ) → j < r.tasks → c < 2 → i ≡ 2 * j + c
      → ◌≡◌ {A = ℕ × ℕ} (cond_node b i, cond_value b i) (get_or (pairs_of j) c (0, 0))
  pair_of i j c l m e =
      sym (each_at (λ k. (cond_node b k, cond_value b k) ∷ []) 1 (λ k. refl) 0 (cond_count b) i 0 i i (0, 0)
      (omega (arith, condition_count r b h)) (omega arith) (omega arith) (omega arith))
      ∙ ap (λ (ps : List (ℕ × ℕ)). get_or ps i (0, 0)) h.conditions
      ∙ each_at pairs_of 2 (λ k. refl) 0 r.tasks j c i j (0, 0) l m e (omega arith)

  condition_in : (i : ℕ) → i < 2 * r.tasks
      → ◌≡◌ {A = ℕ × ℕ} (cond_node b i, cond_value b i) (1 + r.groups + i / 2, value_in r i)
  condition_in i l =
      let j = i / 2 in
      let m : j < r.tasks = omega arith in
      let v = drawn.flag j m in
      by_cases (ℕ_discrete (i % 2) 0)
      (λ (e : i % 2 ≡ 0). pair_of i j 0 m (omega arith) (omega arith)
      ∙ ap (λ (k : ℕ). (1 + r.groups + j, k)) (omega (arith, drawn.pre j m, value_pre r i e)))
      (λ z. let e : i % 2 ≡ 1 = omega arith in pair_of i j 1 m (omega arith) (omega arith)
      ∙ ap (λ (k : ℕ). (1 + r.groups + j, k)) (omega (arith, drawn.post j m, value_post r i e)))

  -- ---- orders
  order_in : (m : ℕ) → m < order_number r
      → ◌≡◌ {A = ℕ × ℕ} (earlier_of b m, later_of b m) (1 + ordered_group r m, 2 + ordered_group r m)
  order_in m l =
      sym (each_at (λ k. (earlier_of b k, later_of b k) ∷ []) 1 (λ k. refl) 0 (order_count b) m 0 m m (0, 0)
      (omega (arith, order_count_lem r b h)) (omega arith) (omega arith) (omega arith))
      ∙ ap (λ (ps : List (ℕ × ℕ)). get_or ps m (0, 0)) (orders_drawn_lem r b h)
      ∙ each_at (λ k. (1 + ordered_group r k, 2 + ordered_group r k) ∷ []) 1 (λ k. refl) 0 (order_number r)
      m 0 m m (0, 0)
      l (omega arith) (omega arith) (omega arith)

  -- ---- flags
  flag_clear : (f : ℕ) → f < 64 → start_flag b f ≡ false
  flag_clear f l = by_cases (dec_lt f 8) (λ (m : f < 8). h.clear f m)
      (λ m. not_passed (start_flag b f) (λ s. omega (arith, h.flags, start_below b (clean b h.passes) f l s)))

  bit_clear : (k c : ℕ) → k < 8 → c < 8 → get_or b (8 + k) 0 / 2 ^ c % 2 ≡ 0
  unfolding start_flag
  bit_clear k c l m =
      let x : (8 * k + c) / 8 ≡ k = omega arith in
      let y : (8 * k + c) % 8 ≡ c = omega arith in
      let z = eqb-false (get_or b (8 + k) 0 / 2 ^ c % 2) 1 (rw (x, y) at (flag_clear (8 * k + c) (omega arith))) in
      omega arith

  pub generated_fields : Laid b (generated r)
  unfolding generated
  generated_fields = record {
    long = generated_long r b h;
    nodes = h.nodes;
    conditions = condition_count r b h;
    orders = order_count_lem r b h;
    flags = h.flags;
    start = λ k l. no_bits (get_or b (8 + k) 0) (small (8 + k)) (λ c m. bit_clear k c l m);
    name = name_in_lem;
    parent = λ n l. (node_in n l).its_parent;
    kind = λ n l. (node_in n l).its_kind;
    minutes = λ n l. (node_in n l).its_minutes;
    task = λ i l. ap (λ (p : ℕ × ℕ). p.0) (condition_in i l);
    value = λ i l. ap (λ (p : ℕ × ℕ). p.1) (condition_in i l);
    earlier = λ m l. ap (λ (p : ℕ × ℕ). p.0) (order_in m l);
    later = λ m l. ap (λ (p : ℕ × ℕ). p.1) (order_in m l);
  }

pub generated_only : (r : Recipe) (b c : List ℕ) → Bytes b → Bytes c → IsGenerated r b → IsGenerated r c → b ≡ c
unfolding generated
generated_only r b c x y h k =
    let n = generated_long r b h in
    ext_get_or 0 b c (n ∙ sym (generated_long r c k)) (λ i l.
    laid_byte (generated r) b (generated_fields r b h x) x i (omega arith)
    ∙ sym (laid_byte (generated r) c (generated_fields r c k y) y i (omega arith)))
