-- Two plans side by side under an all_of root: the whole is CLEAR exactly if both are and nothing in one collides with
-- anything in the other.
use Rattle.runs.proofs.Base.{◌≡◌, refl, sym, ◌∙◌, ◌≢◌, ◌⊎◌, ◌↔◌, Bool, not, ℕ, ◌<◌, T}
use mathlib.Core.Logic.{⊎_elim}
use Rattle.runs.specs.Plan.{all_of, Place, pre, inc, post, Plan, Child, Before, direct, chain, Unordered}
use Rattle.runs.specs.WellFormed.{WellFormed}
use Rattle.runs.specs.Summary.{May, ExternalPre, MayClobber}
use Rattle.runs.specs.Pairs.{TaskWith, ClobberByPairs, in_child, unordered_pair, opposed_pair, passed_on}
use Rattle.runs.specs.Verdict.{Clear}
use Rattle.merges.specs.Collisions.{Collides, needed_or_held, left_opposite, BothClear}
use Rattle.runs.proofs.Plan.Chains.{before_child}
use Rattle.runs.proofs.Summary.Events.{pre_flag}
use Rattle.runs.proofs.Summary.ByChildren.{may_pre_all}
use Rattle.runs.proofs.Summary.Clobber.{clobber_all}
use Rattle.merges.proofs.Matching.{Matching, swapped, task_match}
use Rattle.merges.proofs.SameMarks.{pre_match, clobber_match}

-- a is what stands under the child c of p's root; F and A are the flags of p and of a at the start
pub record Side (p a : Plan) (F A : ℕ → Bool) (R : ℕ → ℕ → Type 0) (c : ℕ) : Type 0 where
  pub matching : Matching p a R
  pub match : R c 0
  pub child : Child p 0 c
  pub starts : (f : ℕ) → f < a.conditions.flags → F f ≡ A f

module _ {p a : Plan} {F A : ℕ → Bool} {R : ℕ → ℕ → Type 0} {c : ℕ} (s : Side p a F A R c) (f : ℕ) (v : Bool) where
  task_in : (i j : Place) → TaskWith p i j f v c → TaskWith a i j f v 0
  task_in i j = task_match s.matching i j s.match

  task_out : (i j : Place) → TaskWith a i j f v 0 → TaskWith p i j f v c
  task_out i j = task_match (swapped s.matching) i j s.match

  -- a flag on which a has a precondition starts alike in p and in a
  same_start : May a 0 (ExternalPre a f v) → F f ≡ A f
  same_start z = s.starts f (pre_flag a s.matching.well_second z.holds.event z.holds.needs)

  clobber_free : Clear a A → ¬ MayClobber p f v c
  clobber_free k z = k.no_clobber f v (clobber_match s.matching f v s.match z)

  pre_free : Clear a A → F f ≡ not v → ¬ May p c (ExternalPre p f v)
  pre_free k e z = let y = pre_match s.matching f v s.match z in k.no_pre f v (sym (same_start y) ∙ e) y

-- q and r are what stands under the only two children of p's root, c and d, which are unordered
pub record Sides (p q r : Plan) (F G H : ℕ → Bool) (R S : ℕ → ℕ → Type 0) (c d : ℕ) : Type 0 where
  pub root : p.tree.kind 0 ≡ all_of
  pub first : Side p q F G R c
  pub second : Side p r F H S d
  pub only : (x : ℕ) → Child p 0 x → (x ≡ c) ⊎ (x ≡ d)
  pub distinct : c ≢ d
  pub unordered : (x y : ℕ) → Child p 0 x → Child p 0 y → ¬ T (p.order x y)

module _ {p q r : Plan} {F G H : ℕ → Bool} {R S : ℕ → ℕ → Type 0} {c d : ℕ} (s : Sides p q r F G H R S c d) where
  w : WellFormed p
  w = s.first.matching.well_first

  no_before : {x y : ℕ} → Child p 0 y → ¬ Before p x y
  no_before hy (direct {a = x} {b = y} o) = s.unordered x y (before_child p w hy (direct o)) hy o
  no_before hy (chain o z) = no_before hy z

  -- what holds of the two sides holds of every child of the root; either way round, of any two
  each_side : (P : ℕ → Type 0) → P c → P d → {x : ℕ} → Child p 0 x → P x
  each_side P i j {x} h = ⊎_elim (λ e. rw e i) (λ e. rw e j) (s.only x h)

  each_pair : (P : ℕ → ℕ → Type 0) → P c d → P d c → {x y : ℕ} → Child p 0 x → Child p 0 y → x ≢ y → P x y
  each_pair P i j {x} {y} hx hy = each_side (λ x. x ≢ y → P x y)
      (each_side (λ y. c ≢ y → P c y) (λ ne. absurd (ne refl)) (λ ne. i) hy)
      (each_side (λ y. d ≢ y → P d y) (λ ne. j) (λ ne. absurd (ne refl)) hy) hx

  -- both are CLEAR and nothing collides: nothing clobbers at the root, and no precondition is false at the start
  clear_of_both : BothClear q r G H → Clear p F
  clear_of_both b = record {
    no_clobber = λ f v z. clobbers f v ((clobber_all p w s.root f v).0 z);
    no_pre = λ f v e z. let (x, h, y, before) = (may_pre_all p w f v w.root_node s.root).0 z in
        each_side (λ x. ¬ May p x (ExternalPre p f v)) (pre_free s.first f v b.first_clear e)
        (pre_free s.second f v b.second_clear e) h y;
  }
    where
      clobbers : (f : ℕ) (v : Bool) → ClobberByPairs p f v 0 → ⊥
      clobbers f v (in_child x h z) = each_side (λ x. ¬ MayClobber p f v x) (clobber_free s.first f v b.first_clear)
          (clobber_free s.second f v b.second_clear) h z
      clobbers f v (unordered_pair x y hx hy u t z) =
          each_pair (λ x y. TaskWith p pre inc f v x → ¬ TaskWith p inc post f (not v) y)
          (λ t z. b.none_collide.this_way f v
          (needed_or_held (task_in s.first f v pre inc t) (task_in s.second f (not v) inc post z)))
          (λ t z. b.none_collide.that_way f v
          (needed_or_held (task_in s.second f v pre inc t) (task_in s.first f (not v) inc post z)))
          hx hy u.distinct t z
      clobbers f v (opposed_pair x y hx hy u t z) =
          each_pair (λ x y. TaskWith p post post f v x → ¬ TaskWith p post post f (not v) y)
          (λ t z. b.none_collide.this_way f v
          (left_opposite (task_in s.first f v post post t) (task_in s.second f (not v) post post z)))
          (λ t z. b.none_collide.that_way f v
          (left_opposite (task_in s.second f v post post t) (task_in s.first f (not v) post post z)))
          hx hy u.distinct t z
      clobbers f v (passed_on x y hx hy o t z avoided) = no_before hx o

  -- the whole is CLEAR: so is each side
  side_clear : {a : Plan} {A : ℕ → Bool} {Q : ℕ → ℕ → Type 0} {x : ℕ} → Side p a F A Q x → Clear p F → Clear a A
  side_clear {x = x} y k = record {
    no_clobber = λ f v z. k.no_clobber f v ((clobber_all p w s.root f v).1
        (in_child x y.child (clobber_match (swapped y.matching) f v y.match z)));
    no_pre = λ f v e z. k.no_pre f v (same_start y f v z ∙ e) ((may_pre_all p w f v w.root_node s.root).1
        (x, y.child, pre_match (swapped y.matching) f v y.match z, λ b o. absurd (no_before y.child o)));
  }

  -- and two sides that collide would clobber at the root
  no_collision : {a b : Plan} {A B : ℕ → Bool} {Q O : ℕ → ℕ → Type 0} {x y : ℕ} → Side p a F A Q x → Side p b F B O y
      → x ≢ y → Clear p F → (f : ℕ) (v : Bool) → ¬ Collides a b f v
  no_collision {a} {b} {x = x} {y = y} i j ne k f v z = k.no_clobber f v ((clobber_all p w s.root f v).1 (at z))
    where
      u : Unordered p x y
      u = record { distinct = ne; not_before = no_before j.child; not_after = no_before i.child }

      at : Collides a b f v → ClobberByPairs p f v 0
      at (needed_or_held t z) = unordered_pair x y i.child j.child u (task_out i f v pre inc t)
          (task_out j f (not v) inc post z)
      at (left_opposite t z) = opposed_pair x y i.child j.child u (task_out i f v post post t)
          (task_out j f (not v) post post z)

  pub sides_clear : Clear p F ↔ BothClear q r G H
  sides_clear = (
    λ k. record {
      first_clear = side_clear s.first k;
      second_clear = side_clear s.second k;
      none_collide = record {
        this_way = no_collision s.first s.second s.distinct k;
        that_way = no_collision s.second s.first (λ e. s.distinct (sym e)) k;
      };
    },
    clear_of_both,
  )
