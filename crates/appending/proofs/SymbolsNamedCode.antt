-- Laws of `put_named`: the print of a symbol that has a reference, appended as a name. Assumes nothing.
use mathlib.Core.Path.{◌≡◌, refl, ap, ◌∙◌, sym}
use mathlib.Core.Bool.{true}
use mathlib.Core.List.{List, ◌∷◌, ◌++◌}
use Prim.Native.Nat.{ℕ, ◌%◌}
use borrow.Author.Rules.{rules}
use Rattle.octets.specs.Plain.Numbers.{le}
use Rattle.octets.proofs.NumbersLaws.{low_bytes}
use Rattle.parse_tree.specs.Plain.Tree.{Text}
use Rattle.parse_tree.specs.Plain.Texts.{number, with_new}
use Rattle.precedence.specs.Write.{Puts}
use Rattle.replacing.specs.Slots.{among}
use Rattle.expander.specs.declared.Ground.{Ground}
use Rattle.expander.specs.declared.slots.Numbered.{Numbered}
use Rattle.expander.specs.Ground.{printed_at, Grounded}
use Rattle.expander.specs.Names.{named_in, NamedBy, SomeNamed, NameRoom, NamesOne}
use Rattle.appending.specs.declared.Appended.{Appended}
use Rattle.appending.specs.Built.{Gives}
use Rattle.appending.specs.Pieces.{naming, plainly, then_piece, name_piece, Appending, Appends}
use Rattle.appending.specs.Symbols.{Nameable, PutsNamed}
use Rattle.appending.proofs.PiecesLaws.{steady_naming, appends_then, appends_is, appends_puts, appends_gives}
use Rattle.appending.proofs.BuiltLaws.{number-gives}
use Rattle.appending.proofs.BuiltRoom.{names_room}

-- ---- its text has a number, and the name is put
module _ (s w : List ℕ) (g : Ground) (n lim p span : ℕ) (v : Appended) (ps : List ℕ) (h : Appending s g n lim ps w v) (here : among p ps ≡ true) where
  abbrev t : Text
  t = printed_at s w g p

  module _ (x : Numbered) (w1 : List ℕ) (N : NamesOne s w g n v.count p x w1) (m : ℕ) (i : m ≡ x.number % 4294967296) (r : ℕ) (w2 : List ℕ)
      (P : Puts w1 lim v.to (36 ∷ (le 8 span ++ le g.width.bytes m)) r w2) where
    by : NamedBy s w g n v.count p ps x w1
    unfolding NamesOne
    by = N ps h.names here

    gives : Gives s w g n v.count ps t x w1
    gives = number-gives s w g n v.count p ps x w1 h.ground h.names h.built here by

    abbrev bytes : List ℕ
    bytes = 36 ∷ (le 8 span ++ le g.width.bytes m)

    abbrev v1 : Appended
    v1 = record { to = v.to; count = x.count; deep = v.deep }

    abbrev v2 : Appended
    v2 = record { to = r; count = x.count; deep = v.deep }

    first : Appends s g n lim ps w v (naming t) v1 w1
    first = appends_gives s g n lim ps w v t x w1 h gives

    second : Appends s g n lim ps w1 v1 (plainly bytes) v2 w2
    second = appends_puts s g n lim ps w1 v1 bytes r w2 first.going P

    both : Appends s g n lim ps w v (then_piece (naming t) (plainly bytes)) v2 w2
    both = appends_then s g n lim ps w v (naming t) v1 w1 (plainly bytes) v2 w2 (steady_naming t) h first second

    -- the texts by number did not change when the name was put
    same : named_in s w2 g x.count ≡ named_in s w1 g x.count
    unfolding with_new
    same = second.texts-are

    number_is : m ≡ number (named_in s w2 g x.count) t % 4294967296
    number_is = i ∙ ap (λ (k : ℕ). k % 4294967296) (gives.is ∙ ap (λ (ts : List Text). number ts t) (sym same))

    bytes_are : 36 ∷ (le 8 span ++ le g.width.bytes (number (named_in s w2 g x.count) t)) ≡ bytes
    bytes_are =
        ap (λ (l : List ℕ). 36 ∷ (le 8 span ++ l)) (sym (ap (le g.width.bytes) number_is ∙ low_bytes g.width.bytes (number (named_in s w2 g x.count) t) h.ground.narrow h.ground.wide))

    appended : Appends s g n lim ps w v (name_piece g.width.bytes span t) v2 w2
    appended = appends_is s g n lim ps w v (then_piece (naming t) (plainly bytes)) v2 w2 both (name_piece g.width.bytes span t) refl bytes_are refl

-- ---- the code
module _ (s w : List ℕ) (g : Ground) (n lim p : ℕ) (v : Appended) (K : Nameable s w g n lim p v) where
  pub named-ground : Grounded s w g
  named-ground = K.going.ground

  pub named-some : SomeNamed s w g n v.count p
  named-some = record { places = K.places; names = K.going.names; here = K.here }

  pub named-room : NameRoom w g v.count p
  named-room = names_room s w g n v.count K.places K.going.names K.going.built p K.here

pub named-put : (s w : List ℕ) (g : Ground) (n lim p span : ℕ) (v : Appended) (x : Numbered) (w1 : List ℕ) → NamesOne s w g n v.count p x w1 → (m : ℕ) → m ≡ x.number % 4294967296 → (r : ℕ) (w2 : List ℕ)
    → Puts w1 lim v.to (36 ∷ (le 8 span ++ le g.width.bytes m)) r w2 → PutsNamed s w g n lim p span v (record { to = r; count = x.count; deep = v.deep }) w2
unfolding PutsNamed
named-put s w g n lim p span v x w1 N m i r w2 P ps h here = appended s w g n lim p span v ps h here x w1 N m i r w2 P

pub ruleset naming_one = (rules, named-ground, named-some, named-room, named-put)
