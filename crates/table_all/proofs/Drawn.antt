-- The tables while they are filled from the items: they have the first i of them. Assumes nothing.
use mathlib.Core.Path.{◌≡◌, refl, sym, subst, ◌∙◌}
use mathlib.Core.Logic.{by_cases}
use mathlib.Core.List.{List}
use Prim.Native.Nat.{ℕ, min, ◌+◌, ◌-◌, ◌<◌, ◌≤◌}
use native.Mathlib.Decide.{dec_lt}
use native.Mathlib.Omega.{arith}
use lib.ListN.{length}
use Rattle.base.specs.Zeros.{Zeros}
use Rattle.plan_format.specs.Format.{node_count, cond_count, order_count}
use Rattle.plan_rules.specs.Rules.{refusal}
use Rattle.plan_rules.proofs.Causes.{usable}
use Rattle.plan_check.proofs.Accepted.{Clean}
use Rattle.plan_check.proofs.Nodes.{node_is}
use Rattle.table_orders.proofs.Chains.{AnyNode, sorted}
use Rattle.table_orders.proofs.Table.{Tabled, zeros_unlinked, tabled_none, tabled_unlinked, tabled_more, tabled_all}
use Rattle.plan_reader.specs.Items.{item_count, item_of}
use Rattle.plan_reader.specs.declared.items.Item.{Item}
use Rattle.plan_reader.proofs.Positions.{item_node, item_condition, item_order}
use Rattle.table_all.specs.Filled.{ItemFits, Stored, ItemsTo}
use Rattle.table_all.proofs.NodeKinds.{Kinds, kinds_none, kinds_more, kinds_all}
use Rattle.table_all.proofs.Conditions.{Noted, noted_none, noted_more, noted_all}

-- how many nodes, conditions and orders are among the first i items
abbrev nodes_to : List ℕ → ℕ → ℕ
nodes_to b i = min i (node_count b)

abbrev conds_to : List ℕ → ℕ → ℕ
conds_to b i = min (i - node_count b) (cond_count b)

abbrev orders_to : List ℕ → ℕ → ℕ
orders_to b i = i - node_count b - cond_count b

pub record Drawn (b k o c : List ℕ) (i : ℕ) : Type 0 where
  pub kinds : Kinds b k (nodes_to b i)
  pub codes : Tabled b AnyNode o (orders_to b i)
  pub words : Noted b c (conds_to b i)

-- the same tables, with the numbers said in another way
drawn : (b k o c : List ℕ) (i x y z : ℕ) → x ≡ nodes_to b i → y ≡ orders_to b i → z ≡ conds_to b i → Kinds b k x
    → Tabled b AnyNode o y → Noted b c z → Drawn b k o c i
drawn b k o c i x y z e f g h t n =
    record {
      kinds = subst (λ (m : ℕ). Kinds b k m) e h;
      codes = subst (λ (m : ℕ). Tabled b AnyNode o m) f t;
      words = subst (λ (m : ℕ). Noted b c m) g n;
    }

pub drawn_none : (b : List ℕ) {k o c : List ℕ} → length k ≡ 128 → Zeros 16384 o → Zeros 768 c → Drawn b k o c 0
drawn_none b {k} {o} {c} l z w =
    drawn b k o c 0 0 0 0 (omega arith) (omega arith) (omega arith) (kinds_none l) (tabled_none (zeros_unlinked z))
    (noted_none w)

-- an item is a node, a condition or an order
data Kind (b : List ℕ) (i : ℕ) : Type 0 where
  a_node : i < node_count b → Kind b i
  a_condition : (j : ℕ) → i ≡ node_count b + j → j < cond_count b → Kind b i
  an_order : (j : ℕ) → i ≡ node_count b + cond_count b + j → j < order_count b → Kind b i

kind_of_lem : (b : List ℕ) (i : ℕ) → i < item_count b → Kind b i
unfolding item_count
kind_of_lem b i l =
    by_cases (dec_lt i (node_count b)) (λ m. a_node m)
    (λ m.
    by_cases (dec_lt i (node_count b + cond_count b)) (λ n. a_condition (i - node_count b) (omega arith) (omega arith))
    (λ n. an_order (i - node_count b - cond_count b) (omega arith) (omega arith)))

module _ (b : List ℕ) (u : Clean b) {i : ℕ} (r : Item) (e : r ≡ item_of b i) where
  fits_at : Kind b i → ItemFits i r
  unfolding ItemFits
  fits_at (a_node m) =
      subst (λ (x : Item). ItemFits i x) (sym (e ∙ item_node b m)) (omega (arith, u.fits.limits.nodes))
  fits_at (a_condition j f m) =
      let v = usable b u.fits u.conditions in
      subst (λ (x : Item). ItemFits i x) (sym (e ∙ item_condition b f m))
      (omega (arith, v.node j m), omega (arith, v.value j m))
  fits_at (an_order j f m) = let s = sorted b u in
      subst (λ (x : Item). ItemFits i x) (sym (e ∙ item_order b j f)) (s.lower j m, s.small j m)

  pub drawn_fits : i < item_count b → ItemFits i r
  drawn_fits l = fits_at (kind_of_lem b i l)

  module _ {k o c : List ℕ} (k' o' c' : List ℕ) (d : Drawn b k o c i) (t : Stored i r k k' o o' c c') where
    abbrev stored : {x : Item} → r ≡ x → Stored i x k k' o o' c c'
    stored q = subst (λ (x : Item). Stored i x k k' o o' c c') q t

    more_at : Kind b i → Drawn b k' o' c' (i + 1)
    unfolding Stored
    more_at (a_node m) =
        let w = stored (e ∙ item_node b m) in
        let n : nodes_to b i ≡ i = omega arith in
        drawn b k' o' c' (i + 1) (i + 1) (orders_to b i) (conds_to b i) (omega arith) (omega arith) (omega arith)
        (rw w.0 (kinds_more {b = b} {c = k} (omega (arith, u.fits.limits.nodes)) refl
        (subst (λ (x : ℕ). Kinds b k x) n d.kinds)))
        (rw w.1.0 d.codes) (rw w.1.1 d.words)
    more_at (a_condition j f m) =
        let w = stored (e ∙ item_condition b f m) in
        let v = usable b u.fits u.conditions in
        let n : conds_to b i ≡ j = omega arith in
        drawn b k' o' c' (i + 1) (nodes_to b i) (orders_to b i) (j + 1) (omega arith) (omega arith) (omega arith)
        (rw w.1.0 d.kinds) (rw w.1.1 d.codes)
        (noted_more {b = b} {c = c} {i = j} refl refl (omega (arith, v.node j m)) (omega (arith, v.value j m))
        (subst (λ (x : ℕ). Noted b c x) n d.words) w.0)
    more_at (an_order j f m) =
        let w = stored (e ∙ item_order b j f) in
        let n : orders_to b i ≡ j = omega arith in
        drawn b k' o' c' (i + 1) (nodes_to b i) (j + 1) (conds_to b i) (omega arith) (omega arith) (omega arith)
        (rw w.1.0 d.kinds)
        (tabled_more (sorted b u) m tt tt (subst (λ (x : ℕ). Tabled b AnyNode o x) n d.codes) w.0)
        (rw w.1.1 d.words)

    pub drawn_more : i < item_count b → Drawn b k' o' c' (i + 1)
    drawn_more l = more_at (kind_of_lem b i l)

pub drawn_to : (b : List ℕ) {k o c : List ℕ} {n : ℕ} → refusal b ≡ 0 → n ≤ item_count b → Drawn b k o c n
    → ItemsTo b n k o c
unfolding item_count
drawn_to b {k} {o} {c} {n} r m d =
    record {
      kinds = λ l. let e : nodes_to b n ≡ node_count b = omega (arith, l) in
          kinds_all r (subst (λ (j : ℕ). Kinds b k j) e d.kinds);
      conditions = λ l. let e : conds_to b n ≡ cond_count b = omega (arith, l) in
          noted_all r (subst (λ (j : ℕ). Noted b c j) e d.words);
      no_orders = λ l. let e : orders_to b n ≡ 0 = omega (arith, l) in
          tabled_unlinked (subst (λ (j : ℕ). Tabled b AnyNode o j) e d.codes);
      orders = λ l. let e : orders_to b n ≡ order_count b = omega (arith, l, m) in
          tabled_all r (node_is b) (λ x y. (λ q. (q, (tt, tt)), λ q. q.0))
          (subst (λ (j : ℕ). Tabled b AnyNode o j) e d.codes);
    }

-- the orders come last
pub before_orders : (b : List ℕ) {n m : ℕ} → n ≡ node_count b → m ≡ cond_count b → n + m ≤ item_count b
unfolding item_count
before_orders b e d = omega arith

pub all_items : (b : List ℕ) {n : ℕ} → n ≡ item_count b → node_count b + cond_count b ≤ n
unfolding item_count
all_items b e = omega arith
