-- The symbol for a parameter, which is expanded, appended as the name of its print. Assumes nothing.
use mathlib.Core.Path.{◌≡◌, refl, sym, ap, ◌∙◌, subst}
use mathlib.Core.Bool.{Bool, true}
use mathlib.Core.List.{List, [], ◌∷◌, ◌++◌}
use Prim.Native.Nat.{ℕ, ◌+◌, ◌-◌, ◌≤◌}
use native.Mathlib.Omega.{arith}
use Rattle.octets.specs.Plain.Numbers.{le}
use Rattle.parse_tree.specs.Plain.Tree.{Text, Sym, nil}
use Rattle.parse_tree.specs.Plain.Texts.{number, with_new}
use Rattle.parse_tree.specs.Plain.Display.{print}
use Rattle.parse_tree.specs.Plain.References.{leaf_texts, sym_texts}
use Rattle.parse_tree.specs.Working.Nodes.{span_bytes, node_bytes, symbol_bytes, leaf_code, leaf_operand}
use Rattle.parse_tree.specs.Working.Encode.{leaf_node, sym_bytes}
use Rattle.parse_tree.specs.declared.syntax.Span.{Span}
use Rattle.texts.specs.Table.{texts}
use Rattle.passes.specs.Macros.{at}
use Rattle.display.specs.Standing.{SymStands}
use Rattle.display.proofs.StandsLaws.{first_stands, none_stand}
use Rattle.replacing.specs.Slots.{among}
use Rattle.replacing.specs.Trees.{keyed, renamed, is_key}
use Rattle.expander.specs.declared.Ground.{Ground}
use Rattle.expander.specs.Ground.{printed_at, Grounded}
use Rattle.expander.specs.Names.{named_in}
use Rattle.expander.specs.Replace.{StandsAt}
use Rattle.expander.proofs.KeysLaws.{stands_print}
use Rattle.appending.specs.declared.Appended.{Appended}
use Rattle.appending.specs.Pieces.{name_piece, Appends}
use Rattle.appending.proofs.PiecesLaws.{appends_is}
use Rattle.appending.specs.Symbols.{Nameable, PutsNamed}
use Rattle.appending.proofs.SymbolsTrees.{own_key, renamed_key}
use Rattle.macro_expand.specs.PutIn.{symbol_piece, Argument, SomeArgument, PutsOne}

-- ---- a symbol that is expanded, at another span
key_at_lem : (sp : Span) (x : Sym) → is_key x ≡ true → at sp (renamed x) ≡ keyed sp x
key_at_lem sp x k = ap (at sp) (renamed_key x k)

-- ---- every one that stands there
module _ (s w : List ℕ) (g : Ground) (n lim p span : ℕ) (v : Appended) (ps : List ℕ) (four : Bool) (left from end : ℕ) (x : Sym) (sp : Span) (R : Argument s w g n lim p span v ps four left from end x sp) where
  abbrev G : Grounded s w g
  G = R.going.ground

  pub argument-stands : StandsAt s w g four left from end x
  argument-stands =
      let f = first_stands s w g.m g.width.bytes four left (g.from + from) (g.from + end) x nil R.referring.stand in
      let z = none_stand s w g.m g.width.bytes four left _ (g.from + end) f.1 in
      subst (λ (e : ℕ). SymStands s w g.m g.width.bytes four left (g.from + from) e x) z f.0

  pub argument-from : p - g.from ≡ from
  argument-from = omega (arith, R.at)

  module _ (k : is_key x ≡ true) where
    pub argument-here : among from ps ≡ true
    argument-here = (own_key g.width.bytes (texts s w g.m) (λ (q : ℕ). among q ps ≡ true) x nil from k R.referring.referred).0

    print-is : printed_at s w g from ≡ print x
    print-is = stands_print s w g G four left from end x argument-stands R.referring.inside R.referring.levels

    name_bytes_lem : (T : List Text) (m : ℕ) → m ≡ number T (print x) → 36 ∷ (le 8 span ++ le g.width.bytes m) ≡ sym_bytes g.width.bytes T (at sp (renamed x))
    unfolding sym_bytes node_bytes symbol_bytes leaf_node leaf_code leaf_operand
    name_bytes_lem T m i =
        ap (λ (l : List ℕ). 36 ∷ (l ++ le g.width.bytes m)) R.span_is
        ∙ ap (λ (j : ℕ). 36 ∷ (span_bytes sp ++ le g.width.bytes j)) i
        ∙ sym (ap (sym_bytes g.width.bytes T) (key_at_lem sp x k))

    name_texts : sym_texts (at sp (renamed x)) ≡ (print x ∷ []) ++ []
    unfolding sym_texts leaf_texts
    name_texts = ap sym_texts (key_at_lem sp x k)

    -- the print is named: the bytes and texts of the symbol at that span
    appended : (r : Appended) (w' : List ℕ) → PutsNamed s w g n lim (p - g.from) span v r w' → Appends s g n lim ps w v (symbol_piece g.width.bytes (at sp (renamed x)) true) r w'
    unfolding PutsNamed
    appended r w' P =
        let T : List Text = named_in s w' g r.count in
        let named = subst (λ (q : ℕ). PutsNamed s w g n lim q span v r w') argument-from P in
        appends_is s g n lim ps w v (name_piece g.width.bytes span (printed_at s w g from)) r w' (named ps R.going argument-here) (symbol_piece g.width.bytes (at sp (renamed x)) true)
        (ap (with_new (named_in s w g v.count)) (name_texts ∙ ap (λ (t : Text). (t ∷ []) ++ []) (sym print-is)))
        (sym (name_bytes_lem T (number T (printed_at s w g from)) (ap (number T) print-is))) refl

-- ---- the code
module _ (s w : List ℕ) (g : Ground) (n lim p span : ℕ) (v : Appended) where
  module _ (K : SomeArgument true s w g n lim p span v) where
    pub named-from : g.from ≤ p
    named-from = omega (arith, K.is.at)

    pub named_some : Nameable s w g n lim (p - g.from) v
    named_some =
        subst (λ (q : ℕ). Nameable s w g n lim q v) (sym (argument-from s w g n lim p span v K.places K.four K.left K.from K.end K.symbol K.span_of K.is))
        (record { places = K.places; going = K.is.going; here = argument-here s w g n lim p span v K.places K.four K.left K.from K.end K.symbol K.span_of K.is K.key })

  pub named_put : (r : Appended) (w' : List ℕ) → PutsNamed s w g n lim (p - g.from) span v r w' → PutsOne true s w g n lim p span v r w'
  unfolding PutsOne
  named_put r w' P ps four left from end x sp k R = appended s w g n lim p span v ps four left from end x sp R k r w' P
