-- One sibling more, and what the words come to over all siblings. Assumes nothing.
use mathlib.Core.Path.{◌≡◌, refl}
use mathlib.Core.Logic.{◌⊎◌, inl, inr, ◌↔◌}
use mathlib.Core.Bool.{Bool, true, false}
use mathlib.Core.Option.{Option, none, some}
use mathlib.Core.List.{List}
use Prim.Native.Nat.{ℕ, ◌+◌, ◌≤◌, ◌<◌}
use native.Mathlib.Omega.{arith}
use lib.Bits.{bit_and, bit_or, bit_xor}
use lib.Dec.{T}
use lib.ListN.{get_or}
use Rattle.base.specs.Bits.{bit}
use Rattle.base.specs.Words.{ones, Says}
use Rattle.base.proofs.Says.{says_map, says_eq, says_self, says_and, says_neither}
use Rattle.runs.specs.Plan.{task, inc, post, Plan, Child, Before, Under, Unordered}
use Rattle.runs.specs.Execution.{Event, start, finish, skip, node_of, asserts as sign_of}
use Rattle.runs.specs.Summary.{Silent}
use Rattle.runs.specs.Pairs.{TaskWith}
use Rattle.runs.proofs.Reflect.{clash}
use Rattle.marks_siblings.specs.declared.Siblings.{Siblings}
use Rattle.tables.specs.declared.Segment.{Segment}
use Rattle.tables.specs.Represents.{code, RepresentsOrder}
use Rattle.marks_row.specs.Columns.{avoid, quiet, asserts, Fact, word_in, Right}
use Rattle.tables.specs.Segments.{Every}
use Rattle.marks_siblings.specs.Group.{Group}
use Rattle.marks_siblings.specs.Siblings.{Apart, Narrows, Narrowed, SiblingWords}
use Rattle.marks_row.proofs.Rows.{cell}
use Rattle.tables.proofs.Segments.{every_next, every_none, every_child}

module _ {w r : ℕ} {C : Type 0} {A : ℕ → Type 0} where
  pub narrows_kept : ¬ C → r ≡ w → Narrows w r C A
  narrows_kept k e = record {
    says =
        λ f l. says_map (λ t. (t, λ c. absurd (k c)), λ x. x.0) (says_eq e (says_self w f));
  }

  pub narrows_map : {D : Type 0} {B : ℕ → Type 0} → D ↔ C → ((f : ℕ) → f < 64 → B f ↔ A f) → Narrows w r D B
      → Narrows w r C A
  narrows_map c a n = record {
    says = λ f l. says_map (λ x. (x.0, λ y. (a f l).0 (x.1 (c.1 y))), λ x. (x.0, λ y. (a f l).1 (x.1 (c.0 y))))
        (n.says f l);
  }

pub narrows_taken : {w r x y : ℕ} {C : Type 0} → C → x ≡ y → r ≡ bit_and w x → Narrows w r C (λ f. T (bit y f))
narrows_taken {w} {r} {x} {y} c q e =
    record {
      says = λ f l. says_map (λ z. (z.0, λ d. z.1), λ z. (z.0, z.1 c))
          (says_and e (says_self w f) (says_eq q (says_self y f)));
    }

-- the flags of neither word
pub neither : (x y f : ℕ) → f < 64 → T (bit (bit_xor (bit_or x y) ones) f) ↔ (¬ (T (bit x f) ⊎ T (bit y f)))
neither x y f l = let s = says_neither {x = x} {y = y} l refl (says_self x f) (says_self y f) in (s.to, s.from)

module _ {order : List ℕ} {p : Plan} (o : RepresentsOrder order p) {n a b : ℕ} (ha : Child p n a)
    (hb : Child p n b) where
  pub apart_is : Apart order a b ↔ Unordered p a b
  apart_is = let e = o.before a b ha.node hb.node in let g = o.after a b ha.node hb.node in (
    λ x. record {
      distinct = x.distinct;
      not_before = λ q. x.not_before (e.1 q);
      not_after = λ q. x.not_after (g.1 q);
    },
    λ x. record {
      distinct = x.distinct;
      not_before = λ q. x.not_before (e.0 q);
      not_after = λ q. x.not_after (g.0 q);
    },
  )

-- no task under b asserts the flag: none has either literal as in- or postcondition
pub silent_is : (p : Plan) (f b : ℕ) → (¬ (TaskWith p inc post f false b ⊎ TaskWith p inc post f true b)) ↔ Silent p f b
silent_is p f b = (λ k e t u. quiet k e t u (sign_of p e f) refl, λ s x. loud s x)
  where
    with_sign : (v : Bool) → TaskWith p inc post f v b → TaskWith p inc post f false b ⊎ TaskWith p inc post f true b
    with_sign true x = inr x
    with_sign false x = inl x

    task_with : (v : Bool) (e : Event) → p.tree.kind (node_of e) ≡ task → Under p b (node_of e) → sign_of p e f ≡ some v
        → TaskWith p inc post f v b
    task_with v (start t) k u q = record { who = t; is_task = k; beneath = u; has = inl q }
    task_with v (finish t) k u q = record { who = t; is_task = k; beneath = u; has = inr q }
    task_with v (skip g) k u q = clash cc

    quiet : (¬ (TaskWith p inc post f false b ⊎ TaskWith p inc post f true b)) → (e : Event)
        → p.tree.kind (node_of e) ≡ task → Under p b (node_of e)
        → (o : Option Bool) → sign_of p e f ≡ o → sign_of p e f ≡ none
    quiet k e t u none q = q
    quiet k e t u (some v) q = absurd (k (with_sign v (task_with v e t u q)))

    heard : (v : Bool) → Silent p f b → (x : TaskWith p inc post f v b)
        → (p.conditions.sign inc x.who f ≡ some v) ⊎ (p.conditions.sign post x.who f ≡ some v) → ⊥
    heard v s x (inl q) = let y = s (start x.who) x.is_task x.beneath in clash cc
    heard v s x (inr q) = let y = s (finish x.who) x.is_task x.beneath in clash cc

    loud : Silent p f b → TaskWith p inc post f false b ⊎ TaskWith p inc post f true b → ⊥
    loud s (inl x) = heard false s x x.has
    loud s (inr x) = heard true s x x.has

-- a node under which no task asserts the flag, by the words of its row
pub silent_cell : {p : Plan} {rows : List ℕ} {b f : ℕ} → Right p rows b → f < 64
    → (¬ (T (bit (word_in rows b (asserts false)) f) ⊎ T (bit (word_in rows b (asserts true)) f))) ↔ Silent p f b
silent_cell {p} {rows} {b} {f} r l = (λ k. (silent_is p f b).0 (λ x. k (down x)), λ s x. (silent_is p f b).1 s (up x))
  where
    up : T (bit (word_in rows b (asserts false)) f) ⊎ T (bit (word_in rows b (asserts true)) f)
        → Fact p b f (asserts false) ⊎ Fact p b f (asserts true)
    up (inl t) = inl ((cell r l (asserts false)).0 t)
    up (inr t) = inr ((cell r l (asserts true)).0 t)

    down : Fact p b f (asserts false) ⊎ Fact p b f (asserts true)
        → T (bit (word_in rows b (asserts false)) f) ⊎ T (bit (word_in rows b (asserts true)) f)
    down (inl x) = inl ((cell r l (asserts false)).1 x)
    down (inr x) = inr ((cell r l (asserts true)).1 x)

-- if the premise is the same and the conclusion is, the implication is
pub implied : {C D A B : Type 0} → C ↔ D → A ↔ B → (C → A) ↔ (D → B)
implied c a = (λ h d. a.0 (h (c.1 d)), λ h d. a.1 (h (c.0 d)))

-- one word, one child more
pub narrows_more : {kids : List ℕ} {lo i b w r : ℕ} {C : Type 0} {A : ℕ → Type 0} {Q : ℕ → ℕ → Type 0}
    → b ≡ get_or kids i 0 → lo ≤ i → Narrows w r C A
    → ((f : ℕ) → f < 64 → (C → A f) ↔ Q f b)
    → ((f : ℕ) → f < 64 → Says w f (Every kids lo i (Q f))) → (f : ℕ) → f < 64 → Says r f (Every kids lo (i + 1) (Q f))
narrows_more q l m e h f k = says_map (
  λ x. (every_next l).0 ((h f k).to x.0, rw q at ((e f k).0 x.1)),
  λ x. let y = (every_next l).1 x in ((h f k).from y.0, (e f k).1 (rw q y.1)),
) (m.says f k)

module _ {kids : List ℕ} {segment : Segment} {order rows : List ℕ} {p : Plan} {n c : ℕ}
    (g : Group kids segment rows p n) (o : RepresentsOrder order p) (hc : Child p n c) where
  module _ {lo i : ℕ} (l : lo ≤ i) where
    pub with_sibling : {b : ℕ} → b ≡ get_or kids i 0 → Child p n b → {s r : Siblings} → Narrowed order rows c b s r
        → SiblingWords p c (Every kids lo i) s
        → SiblingWords p c (Every kids lo (i + 1)) r
    with_sibling {b} e hb m h = record {
      avoid_before = narrows_more e l m.avoid_before (λ f k. implied before (cell right k avoid)) h.avoid_before;
      clear_before = narrows_more e l m.clear_before (λ f k. implied before (cell right k (quiet false)))
          h.clear_before;
      set_before = narrows_more e l m.set_before (λ f k. implied before (cell right k (quiet true))) h.set_before;
      avoid_after = narrows_more e l m.avoid_after
          (λ f k. implied (o.after b c hb.node hc.node) (cell right k avoid)) h.avoid_after;
      silent_apart = narrows_more e l m.silent_apart (λ f k. implied (apart_is o hb hc) (silent_cell right k))
          h.silent_apart;
    }
      where
        right : Right p rows b
        right = g.children b hb

        before : (code order b c ≡ 1) ↔ Before p b c
        before = o.before b c hb.node hc.node

  pub no_siblings : {lo : ℕ} {s : Siblings}
      → s ≡ record {
        avoid_before = ones;
        clear_before = ones;
        set_before = ones;
        avoid_after = ones;
        silent_apart = ones;
      }
      → SiblingWords p c (Every kids lo lo) s
  no_siblings e = rw e (record {
    avoid_before = λ f l. every_none (omega arith) l refl;
    clear_before = λ f l. every_none (omega arith) l refl;
    set_before = λ f l. every_none (omega arith) l refl;
    avoid_after = λ f l. every_none (omega arith) l refl;
    silent_apart = λ f l. every_none (omega arith) l refl;
  })

  -- over the whole segment: all siblings
  pub all_siblings : {s : Siblings} → SiblingWords p c (Every kids segment.start segment.end) s
      → SiblingWords p c (λ Q. (b : ℕ) → Child p n b → Q b) s
  all_siblings h = record {
    avoid_before = λ f l. says_map same (h.avoid_before f l);
    clear_before = λ f l. says_map same (h.clear_before f l);
    set_before = λ f l. says_map same (h.set_before f l);
    avoid_after = λ f l. says_map same (h.avoid_after f l);
    silent_apart = λ f l. says_map same (h.silent_apart f l);
  }
    where
      same : {Q : ℕ → Type 0} → Every kids segment.start segment.end Q ↔ ((b : ℕ) → Child p n b → Q b)
      same = every_child g.listed (λ b hb. (λ x. x, λ x. x))
