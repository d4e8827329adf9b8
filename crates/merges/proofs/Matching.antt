-- Plans that are alike from matched nodes down, whatever numbers the nodes have: subtrees, chains of orders and tasks.
use Rattle.runs.proofs.Base.{◌≡◌, refl, sym, ◌∙◌, Bool, ℕ}
use Rattle.runs.specs.Plan.{Place, Plan, itself, below, Node, Child, Under, Before, direct, chain, Unordered}
use Rattle.runs.specs.WellFormed.{WellFormed}
use Rattle.runs.specs.Pairs.{TaskWith}
use Rattle.runs.proofs.Plan.Trees.{under_trans, child_under}
use Rattle.runs.proofs.Plan.Chains.{before_child}

-- R x y: node x of p is matched with node y of q. Matched nodes are of one kind, with the same conditions and orders,
-- and their children are matched.
pub record Matching (p q : Plan) (R : ℕ → ℕ → Type 0) : Type 0 where
  pub well_first : WellFormed p
  pub well_second : WellFormed q
  pub nodes : {x y : ℕ} → R x y → Node p x × Node q y
  pub kinds : {x y : ℕ} → R x y → p.tree.kind x ≡ q.tree.kind y
  pub signs : {x y : ℕ} → R x y → (l : Place) (f : ℕ) → p.conditions.sign l x f ≡ q.conditions.sign l y f
  pub forth : {x y : ℕ} → R x y → (c : ℕ) → Child p x c → (d : ℕ) × Child q y d × R c d
  pub back : {x y : ℕ} → R x y → (d : ℕ) → Child q y d → (c : ℕ) × Child p x c × R c d
  pub orders : {a b c d : ℕ} → R a c → R b d → p.order a b ≡ q.order c d
  pub one_first : {a b c : ℕ} → R a c → R b c → a ≡ b
  pub one_second : {a c d : ℕ} → R a c → R a d → c ≡ d

-- the other way round: so each law is proved one way only
pub swapped : {p q : Plan} {R : ℕ → ℕ → Type 0} → Matching p q R → Matching q p (λ y x. R x y)
swapped m = record {
  well_first = m.well_second;
  well_second = m.well_first;
  nodes = λ r. let (a, b) = m.nodes r in (b, a);
  kinds = λ r. sym (m.kinds r);
  signs = λ r l f. sym (m.signs r l f);
  forth = m.back;
  back = m.forth;
  orders = λ r s. sym (m.orders r s);
  one_first = m.one_second;
  one_second = m.one_first;
}

module _ {p q : Plan} {R : ℕ → ℕ → Type 0} (m : Matching p q R) where
  under_match : {x y t : ℕ} → R x y → Under p x t → (u : ℕ) × Under q y u × R t u
  under_match {y = y} r itself = (y, itself, r)
  under_match {y = y} r (below {n = t} z l v) = next (under_match r v)
    where
      next : (u : ℕ) × Under q y u × R (p.tree.parent t) u → (u : ℕ) × Under q y u × R t u
      next (u, b, s) = let (d, hd, rd) = m.forth s t (record { not_root = z; node = l; up = refl }) in
          (d, under_trans q b (child_under q hd), rd)

  pub task_match : {x y : ℕ} (i j : Place) {f : ℕ} {v : Bool} → R x y → TaskWith p i j f v x → TaskWith q i j f v y
  task_match i j {f} r t = let (u, b, s) = under_match r t.beneath in record {
    who = u;
    is_task = sym (m.kinds s) ∙ t.is_task;
    beneath = b;
    has = rw (m.signs s i f, m.signs s j f) at t.has;
  }

  -- chains of orders among the children of matched nodes
  pub before_match : {n y a b c d : ℕ} → R n y → Child p n b → R a c → R b d → Before p a b → Before q c d
  before_match rn hb ra rb (direct o) = direct (rw (m.orders ra rb) at o)
  before_match rn hb ra rb (chain {b = e} o z) =
      let (e', he, re) = m.forth rn e (before_child p m.well_first hb z) in
      chain (rw (m.orders ra re) at o) (before_match rn hb re rb z)

pub unordered_match : {p q : Plan} {R : ℕ → ℕ → Type 0} (m : Matching p q R) {n y a b c d : ℕ} → R n y → Child q y c
    → Child q y d → R a c → R b d → Unordered p a b → Unordered q c d
unordered_match m rn hc hd ra rb u = record {
  distinct = λ e. u.distinct (m.one_first ra (rw (← e) at rb));
  not_before = λ z. u.not_before (before_match (swapped m) rn hd ra rb z);
  not_after = λ z. u.not_after (before_match (swapped m) rn hc rb ra z);
}
