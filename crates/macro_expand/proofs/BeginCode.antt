-- Laws of `begin`: an item's name and its first alternative's action are numbered, and both commands are put. Assumes nothing.
use mathlib.Core.Path.{◌≡◌, refl, sym, ap, ◌∙◌, subst}
use mathlib.Core.Bool.{Bool}
use mathlib.Core.List.{List, [], ◌∷◌, ◌++◌}
use Prim.Native.Nat.{ℕ, ◌+◌, ◌%◌, ◌≤◌}
use native.Mathlib.Omega.{arith}
use mir.Syntax.{w8}
use mir.Val as Bound
use borrow.Author.Rules.{rules}
use lib.ListN.{length, get_or}
use Rattle.octets.specs.Plain.Numbers.{le_at, le, Bytes}
use Rattle.octets.proofs.NumbersLaws.{low_bytes}
use Rattle.parse_tree.specs.Plain.Tree.{Text, Sym, sym_span}
use Rattle.parse_tree.specs.Plain.Texts.{number}
use Rattle.parse_tree.specs.Plain.Display.{print}
use Rattle.precedence.specs.Write.{Puts, alternative_head}
use Rattle.precedence.proofs.WriteLaws.{puts_append}
use Rattle.expander.specs.declared.Ground.{Ground}
use Rattle.expander.specs.declared.slots.Numbered.{Numbered}
use Rattle.expander.specs.Ground.{Grounded}
use Rattle.expander.specs.Names.{named_in, NamedBy, SomeNamed, NameRoom, NamesOne}
use Rattle.appending.specs.declared.Appended.{Appended}
use Rattle.appending.specs.Built.{built_text, Gives, SomeBuilt, GivesBuilt}
use Rattle.appending.specs.Commands.{item_head}
use Rattle.appending.specs.Pieces.{naming, Appends}
use Rattle.appending.proofs.BuiltLaws.{number-gives}
use Rattle.appending.proofs.PiecesLaws.{steady_naming, appends_then, appends_gives}
use Rattle.macro_expand.specs.declared.begin.Named.{Named}
use Rattle.macro_expand.specs.Expand.{head_bytes, head_piece, Popped, SomePopped, IsAny, NamedBoth, NamesBoth, Begins}
use Rattle.macro_expand.proofs.PoppedLaws.{popped_here, popped_print, popped_room, popped_named, popped_names_room, popped_span}
use Rattle.macro_expand.proofs.ItemPieces.{item_head_lem, alternative_head_lem, told, appends_told, appends_has, appends_number}

-- ---- every symbol that was taken off the pile
module _ (s w : List ℕ) (g : Ground) (n lim q : ℕ) (v : Appended) (ps : List ℕ) (four : Bool) (left e : ℕ) (y : Sym) (R : Popped s w g n lim ps four left q e y v) where
  -- its print has a number
  module _ (x : Numbered) (w1 : List ℕ) (N : NamesOne s w g n v.count q x w1) where
    by : NamedBy s w g n v.count q ps x w1
    unfolding NamesOne
    by = N ps R.going.names (popped_here s w g n lim ps four left q e y v R)

    gives : Gives s w g n v.count ps (print y) x w1
    gives =
        subst (λ (t : Text). Gives s w g n v.count ps t x w1) (popped_print s w g n lim ps four left q e y v R)
        (number-gives s w g n v.count q ps x w1 R.going.ground R.going.names R.going.built (popped_here s w g n lim ps four left q e y v R) by)

    abbrev pub v1 : Appended
    v1 = record { to = v.to; count = x.count; deep = v.deep }

    pub name_appended : Appends s g n lim ps w v (naming (print y)) v1 w1
    name_appended = appends_gives s g n lim ps w v (print y) x w1 R.going gives

    pub name_number : x.number ≡ number (named_in s w1 g x.count) (print y)
    name_number = gives.is

    -- and so does the text of the action
    module _ (i : ℕ) (t : Numbered) (w2 : List ℕ) (B : GivesBuilt s w1 g n x.count i t w2) where
      action_gives : Gives s w1 g n x.count ps (built_text i) t w2
      unfolding GivesBuilt
      action_gives = B ps name_appended.going.names name_appended.going.built

      abbrev v2 : Appended
      v2 = record { to = v.to; count = t.count; deep = v.deep }

      action_appended : Appends s g n lim ps w1 v1 (naming (built_text i)) v2 w2
      action_appended = appends_gives s g n lim ps w1 v1 (built_text i) t w2 name_appended.going action_gives

      both_named : Appends s g n lim ps w v (told (print y ∷ built_text i ∷ []) (λ ts. [])) v2 w2
      both_named =
          appends_then s g n lim ps w v (naming (print y)) v1 w1 (naming (built_text i)) v2 w2 (steady_naming (print y)) R.going name_appended action_appended

      name_later : x.number ≡ number (named_in s w2 g t.count) (print y)
      name_later =
          name_number
          ∙ sym (appends_number s g n lim ps w1 v1 (naming (built_text i)) v2 w2 action_appended (print y) (appends_has s g n lim ps w v (naming (print y)) v1 w1 name_appended).0)

      both : Bytes w → NamedBoth s w g n lim ps v (sym_span y) (print y) (built_text i) (record { span = le_at 8 w (g.from + q + 1); name = x; text = t }) w2
      both b = record { span = popped_span s w g n lim ps four left q e y v R b; name = name_later; text = action_gives.is; appended = both_named }

-- ---- names
module _ (s w : List ℕ) (g : Ground) (n lim q : ℕ) (v : Appended) (K : SomePopped IsAny s w g n lim q v) where
  pub names_ground : Grounded s w g
  names_ground = K.popped.going.ground

  pub names_span : g.from + q + 1 + 8 ≤ length w
  names_span = omega (arith, popped_room s w g n lim K.places K.four K.left q K.end K.symbol v K.popped, K.popped.going.ground.inside)

  pub names_named : SomeNamed s w g n v.count q
  names_named = popped_named s w g n lim K.places K.four K.left q K.end K.symbol v K.popped

  pub names_rooms : NameRoom w g v.count q
  names_rooms = popped_names_room s w g n lim K.places K.four K.left q K.end K.symbol v K.popped

  module _ (x : Numbered) (w1 : List ℕ) (N : NamesOne s w g n v.count q x w1) where
    abbrev first_named : Appends s g n lim K.places w v (naming (print K.symbol)) (record { to = v.to; count = x.count; deep = v.deep }) w1
    first_named = name_appended s w g n lim q v K.places K.four K.left K.end K.symbol K.popped x w1 N

    pub names_ground_1 : Grounded s w1 g
    names_ground_1 = first_named.going.ground

    pub names_built : SomeBuilt s w1 g n x.count
    names_built = record { places = K.places; names = first_named.going.names; built = first_named.going.built }

    pub names_done : (i : ℕ) (t : Numbered) (w2 : List ℕ) → GivesBuilt s w1 g n x.count i t w2 → ((j : ℕ) → Bound.Fits w8 (get_or w j 0)) → (z : ℕ) → z ≡ le_at 8 w (g.from + q + 1)
        → NamesBoth s w g n lim q v i (record { span = z; name = x; text = t }) w2
    names_done i t w2 B b z a =
        subst (λ (u : ℕ). NamesBoth s w g n lim q v i (record { span = u; name = x; text = t }) w2) (sym a)
        (record {
          narrow = K.popped.going.ground.narrow;
          wide = K.popped.going.ground.wide;
          inside = (action_appended s w g n lim q v K.places K.four K.left K.end K.symbol K.popped x w1 N i t w2 B).going.inside;
          each = λ ps four left e y R. both s w g n lim q v ps four left e y R x w1 N i t w2 B (λ j. (b j).fits);
        })

-- ---- begin
module _ (s w : List ℕ) (g : Ground) (n lim q : ℕ) (v : Appended) (i : ℕ) (x : Named) (w2 : List ℕ) (N : NamesBoth s w g n lim q v i x w2) (flags alternatives symbols k1 k2 : ℕ) (r : ℕ) (w4 : List ℕ)
    (P : Puts w2 lim v.to (item_head g.width.bytes x.span k1 flags alternatives ++ alternative_head g.width.bytes x.span 1 k2 symbols) r w4) (d : k1 ≡ x.name.number % 4294967296) (f : k2 ≡ x.text.number % 4294967296) where
  abbrev v4 : Appended
  v4 = record { to = r; count = x.text.count; deep = v.deep }

  -- of a symbol
  module _ (ps : List ℕ) (four : Bool) (left e : ℕ) (y : Sym) (R : Popped s w g n lim ps four left q e y v) where
    both_here : NamedBoth s w g n lim ps v (sym_span y) (print y) (built_text i) x w2
    both_here = N.each ps four left e y R

    abbrev bytes : List Text → List ℕ
    bytes ts = head_bytes g.width.bytes (sym_span y) (number ts (print y)) flags alternatives 1 (number ts (built_text i)) symbols

    bytes_are : item_head g.width.bytes x.span k1 flags alternatives ++ alternative_head g.width.bytes x.span 1 k2 symbols ≡ bytes (named_in s w2 g x.text.count)
    unfolding head_bytes
    bytes_are =
        let c : le g.width.bytes k1 ≡ le g.width.bytes (number (named_in s w2 g x.text.count) (print y)) =
        ap (le g.width.bytes) d ∙ low_bytes g.width.bytes x.name.number N.narrow N.wide ∙ ap (le g.width.bytes) both_here.name in
        let h : le g.width.bytes k2 ≡ le g.width.bytes (number (named_in s w2 g x.text.count) (built_text i)) =
        ap (le g.width.bytes) f ∙ low_bytes g.width.bytes x.text.number N.narrow N.wide ∙ ap (le g.width.bytes) both_here.text in
        rw (
          item_head_lem g.width.bytes x.span (sym_span y) both_here.span (number (named_in s w2 g x.text.count) (print y)) k1 flags alternatives c,
          alternative_head_lem g.width.bytes x.span (sym_span y) both_here.span (number (named_in s w2 g x.text.count) (built_text i)) k2 1 symbols h,
        ) refl

    begun : Appends s g n lim ps w v (head_piece g.width.bytes (sym_span y) (print y) flags alternatives (built_text i) symbols) v4 w4
    begun =
        appends_told s g n lim ps w v (print y ∷ built_text i ∷ []) bytes (record { to = v.to; count = x.text.count; deep = v.deep }) w2 r w4 R.going both_here.appended
        (subst (λ (xs : List ℕ). Puts w2 lim v.to xs r w4) bytes_are P)

    -- the texts by number did not change when the commands were put
    name_last : x.name.number ≡ number (named_in s w4 g x.text.count) (print y)
    name_last = both_here.name ∙ ap (λ (ts : List Text). number ts (print y)) (both_here.appended.texts-are ∙ sym begun.texts-are)

  pub begin_done : Begins s w g n lim q v flags alternatives i symbols (record { span = x.span; name = x.name; out = v4 }) w4
  unfolding Begins
  begin_done ps four left e y R = (((both_here ps four left e y R).span, name_last ps four left e y R), begun ps four left e y R)

-- ---- put_head
pub head_put : (w w1 : List ℕ) (lim to : ℕ) (xs : List ℕ) (r : ℕ) → Puts w lim to xs r w1 → (ys : List ℕ) (r2 : ℕ) (w2 : List ℕ) → Puts w1 lim r ys r2 w2 → Puts w lim to (xs ++ ys) r2 w2
head_put w w1 lim to xs r p ys r2 w2 q = puts_append w w1 lim to xs r p ys r2 w2 q

pub ruleset heading = (rules, head_put)

pub ruleset naming-both = (rules, names_ground, names_span, names_named, names_rooms, names_ground_1, names_built, names_done)

pub ruleset beginning = (rules, begin_done)
