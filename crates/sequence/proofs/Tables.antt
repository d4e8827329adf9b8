-- The tables of an accepted plan, all of whose nodes stand: the root's children and the rows below it. Assumes nothing.
use mathlib.Core.Path.{◌≡◌, refl, sym, ap, ◌∙◌, subst}
use mathlib.Core.List.{List, []}
use Prim.Native.Nat.{ℕ, ◌≤◌, ◌<◌}
use native.Mathlib.Omega.{arith}
use lib.ListN.{get_or}
use Rattle.std.specs.declared.result.Result.TheVariants.{Err}
use Rattle.answers.specs.declared.Refusal.TheVariants.{UnfitRoot}
use Rattle.node_sets.specs.Sets.{AllMarked}
use Rattle.plan_format.specs.Format.{node_count}
use Rattle.plan_rules.specs.Rules.{refusal}
use Rattle.plan_check.specs.Meaning.{plan_of}
use Rattle.plan_check.proofs.Accepted.{clean}
use Rattle.plan_check.proofs.Meaning.{means, means_well_formed}
use Rattle.plan_blocked.proofs.Refused.{none_under}
use Rattle.plan_blocked.proofs.Standing.{all_stand}
use Rattle.runs.specs.Plan.{all_of, Plan}
use Rattle.runs.specs.Numbers.{kind_number}
use Rattle.runs.specs.WellFormed.{WellFormed}
use Rattle.runs.specs.Searches.{listed}
use Rattle.runs.proofs.Plan.Numbers.{kind_inj}
use Rattle.tables.specs.declared.Segment.{Segment}
use Rattle.tables.specs.Segments.{segment_of}
use Rattle.tables.specs.Represents.{AtGroup, Represents}
use Rattle.tables.proofs.Turns.{at_segment}
use Rattle.marks_tree.specs.Filled.{BelowFilled}
use Rattle.table_children.proofs.Whole.{whole_tree}
use Rattle.table_all.specs.Filled.{AmongOf}
use Rattle.sequences.specs.Sequences.{not_all_of, refused_23}
use Rattle.sequence_search.specs.Search.{CHILDREN, count, InRange, RootChildren}
use Rattle.sequence.specs.Inner.{Below, AnswersOf}
use Rattle.sequence.proofs.Counted.{too_many_places}
use Rattle.sequence.proofs.Answers.{refused_exact}

module _ {b standing kind from kids order conds : List ℕ} (ok : refusal b ≡ 0) (all : AllMarked standing)
    (t : AmongOf b standing kind from kids order conds) where
  well : WellFormed (plan_of b)
  well = means_well_formed b ok

  represents : Represents kind from kids order conds (node_count b) (plan_of b)
  represents = subst (λ (p : Plan). Represents kind from kids order conds (node_count b) p) (none_under b ok)
      (t.represents (listed []) (all_stand b ok standing all))

  pub at_root : {n : ℕ} → n ≡ node_count b → AtGroup from kids n 0
  at_root e = record { shaped = rw e t.children.shaped; below = rw e (clean b ok).fits.limits.some_node }

  pub not_all : ¬ (get_or kind 0 0 ≡ 1) → AnswersOf b (Err UnfitRoot)
  not_all k = record {
    sought = refused_23 (not_all_of (λ e. k (represents.kinds.is 0 well.root_node ∙ ap kind_number e)));
    exact = refused_exact UnfitRoot;
  }

  -- the segment of the root
  module _ {s : Segment} (e : s ≡ segment_of from 0) where
    pub in_order : s.start ≤ s.end
    in_order = (at_segment (at_root refl) e).rises

    pub in_range : count s ≤ CHILDREN → InRange kids s
    in_range l = record { at = at_segment (at_root refl) e; few = l }

    root : RootChildren (plan_of b) kids s
    root =
        let tree = (whole_tree b standing ok all t.children).whole in
        rw e (record {
          children = tree.tree.children 0 well.root_node;
          rising = λ i j. tree.rising 0 i j (clean b ok).fits.limits.some_node;
        })

    pub too_many : CHILDREN < count s → AnswersOf b (Err UnfitRoot)
    too_many l = record { sought = refused_23 (too_many_places well root l); exact = refused_exact UnfitRoot }

    pub below : {n : ℕ} {rows : List ℕ} → get_or kind 0 0 ≡ 1 → n ≡ node_count b
        → BelowFilled kind from kids order conds rows n → Below (plan_of b) kids s order rows
    below k q r = record {
      well_formed = well;
      root_all_of = kind_inj _ all_of (sym (represents.kinds.is 0 well.root_node) ∙ k);
      flags = omega (arith, (means b ok).flags, (clean b ok).fits.limits.flags);
      root = root;
      orders = represents.orders;
      right = λ c h. r.right (plan_of b) well (rw q represents) c h.node (λ z. omega (arith, z, h.not_root));
    }
