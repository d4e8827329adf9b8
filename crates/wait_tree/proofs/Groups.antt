-- The groups, worked out from the children up. Assumes nothing.
use mathlib.Core.Path.{◌≡◌, refl, sym, ◌∙◌}
use mathlib.Core.Logic.{◌≢◌, ⊎_elim, by_cases}
use mathlib.Core.Bool.{Bool, true}
use mathlib.Core.List.{List}
use Prim.Native.Nat.{ℕ, ◌+◌, ◌<◌, ◌≤◌}
use native.Mathlib.Decide.{ℕ_discrete}
use native.Mathlib.Omega.{arith}
use lib.ListN.{get_or, set, length-set}
use lib.Seq.{get_or-set_same, get_or-set_other}
use Rattle.plan_format.specs.Format.{node_count, parent_of, kind_of, is_kind, is_choice}
use Rattle.plan_rules.specs.Rules.{refusal, is_child}
use Rattle.runs.specs.Plan.{Under, itself}
use Rattle.runs.proofs.Plan.Trees.{under_root}
use Rattle.runs.proofs.Execution.Final.{under_task}
use Rattle.plan_check.specs.Meaning.{plan_of}
use Rattle.plan_check.proofs.Accepted.{Clean, clean}
use Rattle.plan_rules.proofs.Causes.{parent_group}
use Rattle.plan_check.proofs.Meaning.{kind_of_lem, kind_task, means_well_formed}
use Rattle.plan_check.proofs.Nodes.{is_node, plan_kind}
use Rattle.tables.specs.declared.Segment.{Segment}
use Rattle.tables.specs.Segments.{segment_of, Position}
use Rattle.tables.proofs.Walks.{right_none, right_more, right_all}
use Rattle.table_children.specs.Children.{TreeOf}
use Rattle.table_children.proofs.Listed.{its_children, every_listed}
use Rattle.wait_lengths.specs.Waits.{length_of, wait_within}
use Rattle.wait_group.specs.Spread.{GroupOf, Tables, ChildLengths, Spread}
use Rattle.wait_tree.specs.Filled.{Done, LengthsTo, LengthsUnder, AllWorked}
use Rattle.wait_lengths.proofs.Lengths.{choice_is, choice_of, child_lower}
use Rattle.wait_lengths.proofs.Bounds.{own_child, group_kind, wait_any, wait_root}

-- ---- a node that is done stays done while the waits grow, and when a right length is written
module _ {b : List ℕ} (ok : Clean b) where
  done_grown : {lengths waits waits' : List ℕ} {m : ℕ} → Tables b lengths waits'
      → ((i : ℕ) → get_or waits i 0 ≤ get_or waits' i 0) → Done b lengths waits m → Done b lengths waits' m
  done_grown {m = m} t up d = record {
    own = d.own;
    children = λ c h. let e = d.children c h in let a = up c in let z = t.within c (child_lower b ok m c h).1 in
        omega arith;
  }

  module _ {lengths waits : List ℕ} {g v : ℕ} (l : g < node_count b) (e : v ≡ length_of b g)
      (t : Tables b lengths waits) where
    written : get_or (set lengths g v) g 0 ≡ length_of b g
    written = get_or-set_same lengths g v 0 (omega (arith, t.lengths_long, ok.fits.limits.nodes)) ∙ e

    length_kept : (m : ℕ) → get_or lengths m 0 ≡ length_of b m → get_or (set lengths g v) m 0 ≡ length_of b m
    length_kept m q = by_cases (ℕ_discrete m g) (λ (y : m ≡ g). rw y written)
        (λ y. get_or-set_other lengths g m v 0 y ∙ q)

    tables_written : Tables b (set lengths g v) waits
    tables_written = record {
      lengths_long = length-set lengths g v ∙ t.lengths_long;
      waits_long = t.waits_long;
      tasks = λ i m k. length_kept i (t.tasks i m k);
      within = t.within;
    }

    done_written : {m : ℕ} → Done b lengths waits m → Done b (set lengths g v) waits m
    done_written {m} d = record { own = length_kept m d.own; children = d.children }

-- a task, and all under it
task_done : {b lengths waits : List ℕ} → refusal b ≡ 0 → (t m : ℕ) → t < node_count b → kind_of b t ≡ 0
    → Tables b lengths waits → Under (plan_of b) t m → Done b lengths waits m
task_done {b} {lengths} {waits} e t m l k s u =
    rw (under_task (plan_of b) (means_well_formed b e) (plan_kind b t ∙ kind_task (kind_of b t) k) u) at own
  where
    own : Done b lengths waits t
    own = record {
      own = s.tasks t l k;
      children = λ c h. ⊎_elim (λ (q : kind_of b t ≡ 1). absurd (omega arith))
          (λ (q : is_choice b t ≡ true). absurd (omega (arith, (choice_is b t q).1))) (group_kind b (clean b e) t c h);
    }

-- a child that is a task: its length stands
pub task_worked : {b lengths waits : List ℕ} {t : ℕ} → refusal b ≡ 0 → t < node_count b → kind_of b t ≡ 0
    → Tables b lengths waits → LengthsUnder b lengths waits lengths waits t
task_worked {t = t} e l k s = record {
  tables = s;
  under = record { kept = λ m d. d; right = λ m u. task_done e t m l k s u };
}

-- ---- the children at the positions before i, with all under them
module _ {b kids : List ℕ} {segment : Segment} {lengths₀ waits₀ : List ℕ} where
  pub children_none : Tables b lengths₀ waits₀
      → LengthsTo b kids segment lengths₀ waits₀ lengths₀ waits₀ segment.start
  children_none t = record { tables = t; walked = right_none refl }

  pub child_more : {lengths waits lengths' waits' l' w' : List ℕ} {i c : ℕ} → c ≡ get_or kids i 0 → Position segment i
      → LengthsTo b kids segment lengths₀ waits₀ lengths waits i
      → l' ≡ lengths' → w' ≡ waits' → LengthsUnder b lengths waits lengths' waits' c
      → LengthsTo b kids segment lengths₀ waits₀ l' w' (i + 1)
  child_more e p s y z x = rw (y, z)
      (record { tables = x.tables; walked = right_more p.low e s.walked x.under })

-- a group by the number of its kind
module _ {b from kids : List ℕ} {g k : ℕ} (a : refusal b ≡ 0) (t : TreeOf b from kids) (l : g < node_count b)
    (q : k ≡ kind_of b g) where
  pub all_group : k ≡ 1 → GroupOf b from kids (is_kind b g 1) g
  all_group e = record { accepted = a; tree = t; node = l; kind = kind_of_lem b g 1 l (sym q ∙ e) }

  pub any_group : k ≢ 1 → k ≢ 0 → GroupOf b from kids (is_choice b g) g
  any_group n m = record { accepted = a; tree = t; node = l; kind = choice_of b (clean b a) g l (omega arith) }

module _ {b from kids lengths₀ waits₀ lengths waits : List ℕ} {test : Bool} {g : ℕ} {segment : Segment}
    (o : GroupOf b from kids test g) (here : segment ≡ segment_of from g)
    (s : LengthsTo b kids segment lengths₀ waits₀ lengths waits segment.end) where
  pub child_lengths : ChildLengths b lengths g
  child_lengths = record { is = λ c h. (every_listed o.tree o.node here s.walked.right c h c itself).own }

  -- the group itself
  worked : {waits' : List ℕ} {v : ℕ} → v ≡ length_of b g → Tables b lengths waits'
      → ((i : ℕ) → get_or waits i 0 ≤ get_or waits' i 0)
      → ((c : ℕ) → is_child b g c ≡ true → get_or waits' c 0 ≡ wait_within b c)
      → LengthsUnder b lengths₀ waits₀ (set lengths g v) waits' g
  worked q t up h =
      let ok = clean b o.accepted in
      record {
        tables = tables_written ok o.node q t;
        under = right_all (its_children o.tree o.node here) s.walked
            (λ m d. done_written ok o.node q t (done_grown ok t up d))
            (record { own = written ok o.node q t; children = h });
      }

  pub all_worked : {waits' : List ℕ} {v : ℕ} → Spread b lengths waits waits' g v
      → LengthsUnder b lengths₀ waits₀ (set lengths g v) waits' g
  all_worked x = worked x.greatest x.tables x.grown x.children

  pub any_worked : {v : ℕ} → is_choice b g ≡ true → v ≡ length_of b g
      → LengthsUnder b lengths₀ waits₀ (set lengths g v) waits g
  any_worked e q =
      let ok = clean b o.accepted in
      worked q s.tables (λ i. omega arith)
      (λ c h. omega (arith, s.tables.within c (child_lower b ok g c h).1, wait_any b ok g c h e))

-- ---- all nodes
module _ {b lengths waits : List ℕ} (e : refusal b ≡ 0) where
  all_done : Tables b lengths waits → ((m : ℕ) → Under (plan_of b) 0 m → Done b lengths waits m)
      → AllWorked b lengths waits
  all_done t h = record {
    lengths_long = t.lengths_long;
    root = (h 0 itself).own;
    within = record {
      long = t.waits_long;
      is = λ n l. by_cases (ℕ_discrete n 0)
          (λ (z : n ≡ 0). rw z (omega (
            arith,
            t.within 0 (clean b e).fits.limits.some_node,
            wait_root b (clean b e),
          )))
          (λ z.
          let p = (parent_group b (clean b e).fits (clean b e).parents n (omega arith) l).0 in
          (h (parent_of b n) (under_root (plan_of b) (means_well_formed b e) (parent_of b n)
          (is_node b (parent_of b n) (omega arith)))).children n (own_child b (clean b e) n (omega arith) l));
    };
  }

  pub root_worked : {lengths₀ waits₀ : List ℕ} → LengthsUnder b lengths₀ waits₀ lengths waits 0
      → AllWorked b lengths waits
  root_worked x = all_done x.tables x.under.right

  pub root_task : Tables b lengths waits → kind_of b 0 ≡ 0 → AllWorked b lengths waits
  root_task t k = root_worked (task_worked e (clean b e).fits.limits.some_node k t)
