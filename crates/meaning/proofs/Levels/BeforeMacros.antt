-- Resolving, levels, resolving again: all before macros, as one. Assumes nothing.
use mathlib.Core.Path.{◌≡◌, sym, subst}
use mathlib.Core.Logic.{◌↔◌}
use mathlib.Core.List.{List}
use Rattle.parse_tree.specs.Plain.Tree.{Text}
use Rattle.passes.specs.Outcome.{Tree, yes}
use Rattle.meaning.specs.Phrases.{Token}
use Rattle.meaning.specs.Meaning.{Derives, DerivesExpanded}
use Rattle.passes.specs.Resolve.{resolve}
use Rattle.passes.specs.Levels.{levelled, check_levels, levels}
use Rattle.meaning.specs.Premises.{HasItem}
use Rattle.passes.proofs.Outcomes.{after-yes, yes_inj}
use Rattle.meaning.proofs.Predicates.{Unresolved, Resolved}
use Rattle.meaning.proofs.Resolving.ResolvedSteps.{resolved, resolved-plain, resolved-derives, has-item}
use Rattle.meaning.proofs.Levels.LevelMeaning.{AllSided, levelled-derives}
use Rattle.meaning.proofs.Levels.LevelledResolved.{keep_item, levelled-resolved}
use Rattle.meaning.proofs.Levels.Again.{fixed_tree, distinct-tree}
use Rattle.meaning.proofs.Levels.Checked.{levels-ok}

-- what macros get: G is resolved, has the nonterminals of U and derives the same from them
pub record Ready (U G : Tree) : Type 0 where
  pub resolved : Resolved G
  pub items : (N : Text) → HasItem U N → HasItem G N
  pub derives : (N : Text) → HasItem U N → (w : List Token) → DerivesExpanded G N w ↔ Derives U N w

-- a yes of the levels is the levelled tree, and the lowest levels have only `all`
levels-yes : (R L : Tree) → levels R ≡ yes L → (levelled R ≡ L) × AllSided R
unfolding levels
levels-yes R L e = let (u, eu, e1) = after-yes (check_levels R) _ L e in (yes_inj (levelled R) L e1, levels-ok R u eu)

levelled-ready : (U R : Tree) → Unresolved U → resolve U ≡ yes R → AllSided R → (G : Tree) → resolve (levelled R) ≡ yes G → Ready U G
levelled-ready U R premises eR sided G eG =
    let resR = resolved U R premises eR in
    let argumentless = resolved-plain U R premises eR in
    let res_l = levelled-resolved R argumentless resR sided (distinct-tree (levelled R) G eG) in
    let up = has-item U R premises eR in
    subst (Ready U) (fixed_tree (levelled R) G eG res_l)
    (record {
      resolved = res_l;
      items = λ N h. keep_item R argumentless N (up N h);
      derives = λ N h w.
          (let a = levelled-derives R resR res_l argumentless sided N (up N h) w in
          let b = resolved-derives U R premises eR N w in
          (λ d. b.0 (a.0 d), λ d. a.1 (b.1 d)));
    })

pub ready : (U R L G : Tree) → Unresolved U → resolve U ≡ yes R → levels R ≡ yes L → resolve L ≡ yes G → Ready U G
ready U R L G premises eR eL eG =
    let (same, sided) = levels-yes R L eL in
    levelled-ready U R premises eR sided G (subst (λ (z : Tree). resolve z ≡ yes G) (sym same) eG)
