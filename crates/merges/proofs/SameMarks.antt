-- Matched nodes have the same marks 0 and 6, and on the way to 6 mark 2: by the rules by children, from the leaves up.
use Rattle.runs.proofs.Base.{◌≡◌, refl, sym, ◌∙◌, Bool, not, none, ℕ}
use mathlib.Core.Logic.{⊎_map}
use Rattle.runs.specs.Plan.{Kind, task, all_of, any_of, optional, pre, inc, post, Plan, Child}
use Rattle.runs.specs.Execution.{History, last_asserted, last_asserted_of}
use Rattle.runs.specs.Summary.{May, ExternalPre, ExternalPost, MayClobber}
use Rattle.runs.specs.Pairs.{ClobberByPairs, in_child, unordered_pair, opposed_pair, passed_on}
use Rattle.runs.proofs.Plan.Trees.{from_leaves}
use Rattle.runs.proofs.Plan.Chains.{before_child}
use Rattle.runs.proofs.Summary.MayMust.{whole, skip_only, may_task, may_any, may_optional}
use Rattle.runs.proofs.Summary.ByChildren.{Avoids, avoids_all, avoids_skip, pre_task, pre_skip, post_skip, may_pre_all}
use Rattle.runs.proofs.Summary.ByChildren.{may_post_all}
use Rattle.runs.proofs.Summary.Clobber.{clobber_all, clobber_any, clobber_optional, clobber_task}
use Rattle.merges.proofs.Matching.{Matching, swapped, task_match, before_match, unordered_match}

module _ {p q : Plan} {R : ℕ → ℕ → Type 0} (m : Matching p q R) where
  kind_match : {x y : ℕ} {k : Kind} → R x y → p.tree.kind x ≡ k → q.tree.kind y ≡ k
  kind_match r e = sym (m.kinds r) ∙ e

  some_match : {x y : ℕ} {A B : ℕ → Type 0} → R x y → ((c d : ℕ) → Child p x c → R c d → A c → B d)
      → (c : ℕ) × Child p x c × A c → (d : ℕ) × Child q y d × B d
  some_match r ih (c, hc, z) = let (d, hd, s) = m.forth r c hc in (d, hd, ih c d hc s z)

  -- a property passes from nodes to their matches, if it does so wherever it passes from the children to theirs
  from_leaves_match : (A B : ℕ → Type 0)
      → ((x y : ℕ) → R x y → ((c d : ℕ) → Child p x c → R c d → A c → B d) → A x → B y) → {x y : ℕ} → R x y → A x → B y
  from_leaves_match A B step {x} {y} r = from_leaves p m.well_first (λ x. (y : ℕ) → R x y → A x → B y)
      (λ x l ih y r. step x y r (λ c d hc s. ih c hc d s)) x (m.nodes r).0 y r

  -- what may happen at a node may happen at its match, if so at tasks, for skips and at all_of groups
  module _ (P Q : History → Type 0) (at_task : (x y : ℕ) → R x y → P (whole x) → Q (whole y))
      (at_skip : (x y : ℕ) → P (skip_only x) → Q (skip_only y))
      (at_all : (x y : ℕ) → R x y → p.tree.kind x ≡ all_of → q.tree.kind y ≡ all_of
      → ((c d : ℕ) → Child p x c → R c d → May p c P → May q d Q) → May p x P → May q y Q) where
    may_match : {x y : ℕ} → R x y → May p x P → May q y Q
    may_match = from_leaves_match (λ x. May p x P) (λ y. May q y Q) step
      where
        step : (x y : ℕ) → R x y → ((c d : ℕ) → Child p x c → R c d → May p c P → May q d Q) → May p x P → May q y Q
        step x y r ih = go (p.tree.kind x) refl
          where
            go : (k : Kind) → p.tree.kind x ≡ k → May p x P → May q y Q
            go task e z = (may_task q m.well_second Q (kind_match r e)).1
                (at_task x y r ((may_task p m.well_first P e).0 z))
            go all_of e z = at_all x y r e (kind_match r e) ih z
            go any_of e z = (may_any q m.well_second Q (kind_match r e)).1
                (some_match r ih ((may_any p m.well_first P e).0 z))
            go optional e z = (may_optional q m.well_second Q (kind_match r e)).1
                (⊎_map (some_match r ih) (at_skip x y) ((may_optional p m.well_first P e).0 z))

  module _ (f : ℕ) where
    whole_match : {x y : ℕ} → R x y → last_asserted q (whole y) f ≡ last_asserted p (whole x) f
    unfolding last_asserted_of
    whole_match r = rw (m.signs r post f, m.signs r inc f)

    avoids_match : {x y : ℕ} → R x y → Avoids p m.well_first f x → Avoids q m.well_second f y
    avoids_match = may_match (λ h. last_asserted p h f ≡ none) (λ h. last_asserted q h f ≡ none)
        (λ x y r e. whole_match r ∙ e) (λ x y e. avoids_skip q m.well_second f y)
        (λ x y r e e' ih z. (avoids_all q m.well_second f e').1
        (λ d hd. let (c, hc, s) = m.back r d hd in ih c d hc s ((avoids_all p m.well_first f e).0 z c hc)))

    module _ (v : Bool) where
      pub pre_match : {x y : ℕ} → R x y → May p x (ExternalPre p f v) → May q y (ExternalPre q f v)
      pre_match = may_match (ExternalPre p f v) (ExternalPre q f v)
          (λ x y r z. (pre_task q m.well_second f v y).1
          (sym (m.signs r pre f) ∙ (pre_task p m.well_first f v x).0 z))
          (λ x y z. absurd (pre_skip p m.well_first f v x z))
          (λ x y r e e' ih z. let (c, hc, u, before) = (may_pre_all p m.well_first f v (m.nodes r).0 e).0 z in
          let (d, hd, s) = m.forth r c hc in
          (may_pre_all q m.well_second f v (m.nodes r).1 e').1 (
            d,
            hd,
            ih c d hc s u,
            λ b o. let (a, ha, t) = m.back r b (before_child q m.well_second hd o) in
                avoids_match t (before a (before_match (swapped m) r hd t s o)),
          ))

      post_match : {x y : ℕ} → R x y → May p x (ExternalPost p f v) → May q y (ExternalPost q f v)
      post_match = may_match (ExternalPost p f v) (ExternalPost q f v) (λ x y r e. whole_match r ∙ e)
          (λ x y z. absurd (post_skip p m.well_first f v x z))
          (λ x y r e e' ih z. let (c, hc, u, after) = (may_post_all p m.well_first f v e).0 z in
          let (d, hd, s) = m.forth r c hc in
          (may_post_all q m.well_second f v e').1 (
            d,
            hd,
            ih c d hc s u,
            λ b hb o. let (a, ha, t) = m.back r b hb in
                avoids_match t (after a ha (before_match (swapped m) r hb s t o)),
          ))

module _ {p q : Plan} {R : ℕ → ℕ → Type 0} (m : Matching p q R) (f : ℕ) (v : Bool) where
  pairs_match : {x y : ℕ} → R x y → ((c d : ℕ) → Child p x c → R c d → MayClobber p f v c → MayClobber q f v d)
      → ClobberByPairs p f v x → ClobberByPairs q f v y
  pairs_match r ih (in_child c hc z) = let (d, hd, s) = m.forth r c hc in in_child d hd (ih c d hc s z)
  pairs_match r ih (unordered_pair c d hc hd u z w) =
      let (c', hc', s) = m.forth r c hc in
      let (d', hd', t) = m.forth r d hd in
      unordered_pair c' d' hc' hd' (unordered_match m r hc' hd' s t u) (task_match m pre inc s z)
      (task_match m inc post t w)
  pairs_match r ih (opposed_pair c d hc hd u z w) =
      let (c', hc', s) = m.forth r c hc in
      let (d', hd', t) = m.forth r d hd in
      opposed_pair c' d' hc' hd' (unordered_match m r hc' hd' s t u) (task_match m post post s z)
      (task_match m post post t w)
  pairs_match r ih (passed_on c d hc hd o z w avoided) =
      let (c', hc', s) = m.forth r c hc in
      let (d', hd', t) = m.forth r d hd in
      passed_on c' d' hc' hd' (before_match m r hc t s o) (post_match m f (not v) t z) (pre_match m f v s w)
      (λ b' hb' i j. let (b, hb, u) = m.back r b' hb' in
      avoids_match m f u
      (avoided b hb (before_match (swapped m) r hb' t u i) (before_match (swapped m) r hc' u s j)))

  pub clobber_match : {x y : ℕ} → R x y → MayClobber p f v x → MayClobber q f v y
  clobber_match = from_leaves_match m (MayClobber p f v) (MayClobber q f v) step
    where
      step : (x y : ℕ) → R x y → ((c d : ℕ) → Child p x c → R c d → MayClobber p f v c → MayClobber q f v d)
          → MayClobber p f v x → MayClobber q f v y
      step x y r ih = go (p.tree.kind x) refl
        where
          go : (k : Kind) → p.tree.kind x ≡ k → MayClobber p f v x → MayClobber q f v y
          go task e z = absurd (clobber_task p m.well_first f v e z)
          go all_of e z = (clobber_all q m.well_second (kind_match m r e) f v).1
              (pairs_match r ih ((clobber_all p m.well_first e f v).0 z))
          go any_of e z = (clobber_any q m.well_second f v (kind_match m r e)).1
              (some_match m r ih ((clobber_any p m.well_first f v e).0 z))
          go optional e z = (clobber_optional q m.well_second f v (kind_match m r e)).1
              (some_match m r ih ((clobber_optional p m.well_first f v e).0 z))
