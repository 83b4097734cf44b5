-- Laws of `put_reference`: a symbol that is expanded, appended as the name of its print. Assumes nothing.
use mathlib.Core.Path.{◌≡◌, refl, sym, ap, ◌∙◌, subst}
use mathlib.Core.Bool.{Bool, false}
use mathlib.Core.List.{List, [], ◌∷◌, ◌++◌, append-nil}
use Prim.Native.Nat.{ℕ, ◌+◌, ◌-◌, ◌≤◌}
use native.Mathlib.Omega.{arith}
use mir.Syntax.{w8}
use mir.Val as Bound
use borrow.Author.Rules.{rules}
use lib.ListN.{length, get_or}
use Rattle.octets.specs.Plain.Numbers.{le_at, le, Bytes}
use Rattle.parse_tree.specs.Plain.Tree.{Text, Sym, nil, cons, count}
use Rattle.parse_tree.specs.Plain.Texts.{number, with_new}
use Rattle.parse_tree.specs.Plain.Display.{print}
use Rattle.parse_tree.specs.Plain.References.{leaf_texts, sym_texts, syms_texts}
use Rattle.parse_tree.specs.Working.Nodes.{node_at}
use Rattle.parse_tree.specs.Working.Encode.{sym_bytes, syms_bytes}
use Rattle.texts.specs.Table.{texts}
use Rattle.laws.proofs.Flat.{Step, SymsFits, syms_fit_lem, step}
use Rattle.grades.specs.Skip.{skip_out}
use Rattle.display.specs.Standing.{SymsStand}
use Rattle.display.proofs.StandsLaws.{one_stands}
use Rattle.replacing.specs.Trees.{renamed, renamed_all}
use Rattle.replacing.specs.Runs.{plain, key_bytes}
use Rattle.expander.specs.declared.Ground.{Ground}
use Rattle.expander.specs.Ground.{size_in, printed_at, Grounded}
use Rattle.expander.specs.Names.{named_in}
use Rattle.expander.proofs.KeysLaws.{stands_print}
use Rattle.expander.proofs.KnownCodes.{key_bytes_lem}
use Rattle.appending.specs.declared.Appended.{Appended}
use Rattle.appending.specs.declared.symbols.Copied.{Copied}
use Rattle.appending.specs.Pieces.{name_piece, symbols_piece, Appends}
use Rattle.appending.specs.Symbols.{Nameable, PutsNamed, Reference, SomeReference, PutsReference}
use Rattle.appending.proofs.PiecesLaws.{appends_is}
use Rattle.grades.proofs.SkipMean.{skip-means}
use Rattle.appending.proofs.SymbolsTrees.{renamed_key, key_plain, key_named}

-- ---- every symbol that stands there
module _ (s w : List ℕ) (g : Ground) (n lim : ℕ) (q : Copied) (ps : List ℕ) (four : Bool) (left e : ℕ) (y : Sym) (R : Reference s w g n lim q ps four left e y) where
  abbrev G : Grounded s w g
  G = R.going.ground

  one : SymsStand s w g.m g.width.bytes four left (g.from + q.at) (g.from + e) (cons y nil)
  one = one_stands s w g.m g.width.bytes four left (g.from + q.at) (g.from + e) y R.stands

  fits : SymsFits g.width.bytes (texts s w g.m) (cons y nil)
  fits = syms_fit_lem g.width.bytes (texts s w g.m) four (cons y nil) left one.within

  here : Step g.width.bytes (texts s w g.m) w (g.from + q.at) (g.from + e) y nil
  here = step g.width.bytes (texts s w g.m) w (g.from + q.at) (g.from + e) y nil fits one.lies

  -- it has nine bytes
  room : q.at + 9 ≤ e
  room = omega (arith, here.large, here.room)

  end_is : skip_out g.width.bytes g.end w (g.from + q.at) g.end 1 ≡ g.from + e
  unfolding size_in count
  end_is = skip-means g.width.bytes (texts s w g.m) (cons y nil) fits w (g.from + q.at) (g.from + e) g.end (omega (arith, R.inside, G.ordered)) one.lies

  print-is : printed_at s w g q.at ≡ print y
  print-is = stands_print s w g G four left q.at e y R.stands R.inside R.levels

  -- the bytes of its name
  name_bytes_lem : Bytes w → (T : List Text) (k : ℕ) → k ≡ number T (print y) → 36 ∷ (le 8 (le_at 8 w (g.from + q.at + 1)) ++ le g.width.bytes k) ≡ syms_bytes g.width.bytes T (renamed_all (cons y nil))
  unfolding renamed_all syms_bytes
  name_bytes_lem b T k i =
      let z : plain (node_at g.width.bytes w (g.from + q.at)) ≡ false = ap plain here.here ∙ key_plain (texts s w g.m) y R.key in
      sym (key_bytes_lem g.width.bytes w (g.from + q.at) b k z)
      ∙ ap (λ j. key_bytes g.width.bytes j k) here.here
      ∙ key_named g.width.bytes (texts s w g.m) T y k i
      ∙ ap (sym_bytes g.width.bytes T) (sym (renamed_key y R.key))
      ∙ sym (append-nil (sym_bytes g.width.bytes T (renamed y)))

  name_texts : syms_texts (renamed_all (cons y nil)) ≡ (print y ∷ []) ++ []
  unfolding renamed_all syms_texts sym_texts leaf_texts
  name_texts = ap (λ (x : Sym). sym_texts x ++ []) (renamed_key y R.key)

  -- the print is named: the bytes and texts of the symbol renamed
  named : Bytes w → (r : Appended) (w' : List ℕ) → PutsNamed s w g n lim q.at (le_at 8 w (g.from + q.at + 1)) q.out r w'
      → Appends s g n lim ps w q.out (symbols_piece g.width.bytes (cons y nil)) r w'
  unfolding PutsNamed
  named b r w' P =
      let T : List Text = named_in s w' g r.count in
      let x : ℕ = le_at 8 w (g.from + q.at + 1) in
      appends_is s g n lim ps w q.out (name_piece g.width.bytes x (printed_at s w g q.at)) r w' (P ps R.going R.here) (symbols_piece g.width.bytes (cons y nil))
      (ap (with_new (named_in s w g q.out.count)) (name_texts ∙ ap (λ (t : Text). (t ∷ []) ++ []) (sym print-is)))
      (sym (name_bytes_lem b T (number T (printed_at s w g q.at)) (ap (number T) print-is))) refl

-- ---- the code
module _ (s w : List ℕ) (g : Ground) (n lim : ℕ) (q : Copied) (K : SomeReference s w g n lim q) where
  abbrev first_place : q.at + 9 ≤ K.end
  first_place = room s w g n lim q K.places K.four K.left K.end K.symbol K.is

  pub reference_ground : Grounded s w g
  reference_ground = K.is.going.ground

  pub reference_span : g.from + q.at + 1 + 8 ≤ length w
  unfolding size_in
  reference_span = omega (arith, first_place, K.is.inside, K.is.going.ground.ordered, K.is.going.ground.inside)

  pub reference_named : Nameable s w g n lim q.at q.out
  reference_named = record { places = K.places; going = K.is.going; here = K.is.here }

  module _ (d : ℕ) (z : d ≡ skip_out g.width.bytes g.end w (g.from + q.at) g.end 1) where
    pub reference_from : g.from ≤ d
    reference_from = omega (arith, end_is s w g n lim q K.places K.four K.left K.end K.symbol K.is)

    pub reference_put : ((j : ℕ) → Bound.Fits w8 (get_or w j 0)) → (v : ℕ) → v ≡ le_at 8 w (g.from + q.at + 1) → (r : Appended) (w' : List ℕ) → PutsNamed s w g n lim q.at v q.out r w'
        → PutsReference s w g n lim q (record { at = d - g.from; out = r }) w'
    unfolding PutsReference
    reference_put b v h r w' P ps four left e y R = (
      omega (arith, end_is s w g n lim q ps four left e y R),
      named s w g n lim q ps four left e y R (λ j. (b j).fits) r w' (subst (λ (u : ℕ). PutsNamed s w g n lim q.at u q.out r w') h P),
    )

pub ruleset referring_one = (rules, reference_ground, reference_span, reference_named, reference_from, reference_put)
