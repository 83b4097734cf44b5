-- What holds of each item holds of the macro found among them, and what putting arguments in keeps of an alternative holds of all that a call gives. Assumes nothing.
use mathlib.Core.Path.{◌≡◌}
use mathlib.Core.Bool.{Bool, true, false, cond, ◌&&◌}
use mathlib.Core.List.{List, [], ◌∷◌}
use mathlib.Core.Option.{Option, none, some}
use Rattle.octets.specs.Plain.Runs.{same_as}
use Rattle.parse_tree.specs.Plain.Tree.{Text, Syms, Alternative, Nonterminal, Item, item}
use Rattle.parse_tree.specs.Working.Within.{Each}
use Rattle.parse_tree.specs.declared.syntax.Span.{Span}
use Rattle.passes.specs.Outcome.{Tree, yes}
use Rattle.passes.specs.Macros.{expand_alternative, evaluate_cond, expand_alternatives, macro_in, expand_macro_symbol}
use Rattle.passes.proofs.Outcomes.{no≢yes, after-yes}
use Rattle.passes.proofs.ResolveKeeps.{yes_as}

-- ---- the macro of a call
abbrev pub Found : (Item → Type 0) → Option Nonterminal → Type 0
Found I none = Unit {0}
Found I (some d) = I (item d)

pub macro_found : (I : Item → Type 0) (G : Tree) (n : Text) → Each I G → Found I (macro_in G n)
macro_found I [] n h = tt
macro_found I (item d ∷ rest) n h = go (same_as d.name n && (elim d.args [ [] ↦ false | p ∷ ps ↦ true ])) (macro_found I rest n h.1)
  where
    go : (b : Bool) → Found I (macro_in rest n) → Found I (cond b (some d) (macro_in rest n))
    go true i = h.0
    go false i = i
macro_found I (Item.terminal s o t ∷ rest) n h = macro_found I rest n h.1

-- ---- the arguments xs put in, each alternative's condition asked
module _ (Q : Alternative → Type 0) (s : Span) (xs : Syms) (put : (ps : List Text) (a : Alternative) → Q a → Q (expand_alternative s ps xs a)) where
  alternatives_put : (ps : List Text) (as' bs : List Alternative) → Each Q as' → expand_alternatives s ps xs as' ≡ yes bs → Each Q bs
  unfolding expand_alternatives
  alternatives_put ps [] bs h e = yes_as (Each Q) e tt
  alternatives_put ps (a ∷ rest) bs h e =
      let (b, _, f) = after-yes (evaluate_cond ps xs a.condition) _ bs e in
      let (cs, g, i) = after-yes (expand_alternatives s ps xs rest) _ bs f in
      yes_as (Each Q) i (go b cs (alternatives_put ps rest cs h.1 g))
    where
      go : (b : Bool) (cs : List Alternative) → Each Q cs → Each Q (cond b (expand_alternative s ps xs a ∷ cs) cs)
      go true cs r = (put ps a h.0, r)
      go false cs r = r

  -- theorem: the item that a call gives
  pub call_keeps : (I : Item → Type 0) → ((m : Nonterminal) → I (item m) → Each Q m.alternatives) → (key : Text)
      → ((m : Nonterminal) (bs : List Alternative) → Each Q bs → I (item (record { span = s; name = key; inline = m.inline; public = m.public; args = []; alternatives = bs })))
      → (o : Option Nonterminal) (d : Nonterminal) → Found I o → expand_macro_symbol s key xs o ≡ yes d → I (item d)
  call_keeps I all key whole none d h e = absurd (no≢yes 11 s d e)
  call_keeps I all key whole (some m) d h e =
      let (bs, f, g) = after-yes (expand_alternatives s m.args xs m.alternatives) _ d e in
      yes_as (λ c. I (item c)) g (whole m bs (alternatives_put m.args m.alternatives bs (all m h) f))
