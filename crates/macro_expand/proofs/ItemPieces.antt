-- Pieces of items that are appended: bytes by the numbers of texts that were named before. Assumes nothing.
use mathlib.Core.Path.{◌≡◌, refl, sym, ap, subst}
use mathlib.Core.Bool.{true}
use mathlib.Core.List.{List, [], ◌++◌, append-nil}
use Prim.Native.Nat.{ℕ}
use Rattle.octets.specs.Plain.Numbers.{le}
use Rattle.parse_tree.specs.Plain.Tree.{Text}
use Rattle.parse_tree.specs.Plain.Texts.{has, number, with_new}
use Rattle.parse_tree.specs.Working.Nodes.{span_bytes, node_bytes}
use Rattle.parse_tree.specs.declared.syntax.Span.{Span}
use Rattle.parse_tree.specs.declared.syntax.Node.{Node}
use Rattle.precedence.specs.Write.{Puts, alternative_head}
use Rattle.replacing.proofs.Growing.{Extends, extends_number, new_extends}
use Rattle.parse_tree.proofs.NothingNew.{There}
use Rattle.replacing.proofs.ThereBytes.{new_all}
use Rattle.expander.specs.declared.Ground.{Ground}
use Rattle.expander.specs.Names.{named_in}
use Rattle.appending.specs.declared.Appended.{Appended}
use Rattle.appending.specs.Commands.{item_head}
use Rattle.appending.specs.Pieces.{Piece, plainly, Steady, Appending, Appends}
use Rattle.appending.proofs.PiecesLaws.{appends_then, appends_is, appends_puts}
use Rattle.macro_expand.specs.Expand.{head_piece}

-- ---- commands by the span and the numbers that they mean
module _ (wd span : ℕ) (sp : Span) (z : le 8 span ≡ span_bytes sp) where
  pub item_head_lem : (k m flags alternatives : ℕ) → le wd m ≡ le wd k
      → item_head wd span m flags alternatives ≡ node_bytes wd (Node.Nonterminal (record { span = sp; name = record { 0 = k }; flags = flags; args = 0; alternatives = alternatives }))
  unfolding item_head node_bytes
  item_head_lem k m flags alternatives e = rw (z, e) refl

  pub alternative_head_lem : (t m act symbols : ℕ) → le wd m ≡ le wd t
      → alternative_head wd span act m symbols ≡ node_bytes wd (Node.Alternative (record { span = sp; attributes = 0; conditions = 0; action = act; text = record { 0 = t }; symbols = symbols }))
  unfolding alternative_head node_bytes
  alternative_head_lem t m act symbols e = rw (z, e) refl

-- ---- pieces of texts that are known by then
abbrev pub told : List Text → (List Text → List ℕ) → Piece
told us f = record { texts = us; bytes = f; fits = true }

-- the numbers of known texts stay
pub known_number : (ts us : List Text) (t : Text) → has t ts ≡ true → number (ts ++ us) t ≡ number ts t
known_number ts us t h = extends_number ts (ts ++ us) t (record { more = us; is = refl }) h

pub steady_head : (wd : ℕ) (sp : Span) (key : Text) (flags alternatives : ℕ) (t : Text) (symbols : ℕ) → Steady (head_piece wd sp key flags alternatives t symbols)
steady_head wd sp key flags alternatives t symbols = record {
  same = λ ts us h. rw (known_number ts us key h.0, known_number ts us t h.1.0) refl;
}

module _ (s : List ℕ) (g : Ground) (n lim : ℕ) (ps : List ℕ) where
  -- texts were named, and bytes by their numbers are put
  pub appends_told : (w : List ℕ) (v : Appended) (us : List Text) (f : List Text → List ℕ) (v1 : Appended) (w1 : List ℕ) (r : ℕ) (w2 : List ℕ) → Appending s g n lim ps w v
      → Appends s g n lim ps w v (told us (λ ts. [])) v1 w1 → Puts w1 lim v1.to (f (named_in s w1 g v1.count)) r w2
      → Appends s g n lim ps w v (told us f) (record { to = r; count = v1.count; deep = v1.deep }) w2
  unfolding with_new
  appends_told w v us f v1 w1 r w2 h a p =
      let xs = f (named_in s w1 g v1.count) in
      let b = appends_puts s g n lim ps w1 v1 (f (named_in s w1 g v1.count)) r w2 a.going p in
      let both = appends_then s g n lim ps w v (told us (λ ts. [])) v1 w1 (plainly (f (named_in s w1 g v1.count))) _ w2 (record { same = λ ts vs z. refl }) h a b in
      appends_is s g n lim ps w v _ _ w2 both (told us f) (ap (with_new (named_in s w g v.count)) (sym (append-nil us))) (ap f b.texts-are) refl

  -- the texts of a piece are known behind it
  pub appends_has : (w : List ℕ) (v : Appended) (x : Piece) (v1 : Appended) (w1 : List ℕ) → Appends s g n lim ps w v x v1 w1 → There (named_in s w1 g v1.count) x.texts
  appends_has w v x v1 w1 a = subst (λ (ts : List Text). There ts x.texts) (sym a.texts-are) (new_all (named_in s w g v.count) x.texts)

  -- known texts keep their numbers
  pub appends_extends : (w : List ℕ) (v : Appended) (x : Piece) (v1 : Appended) (w1 : List ℕ) → Appends s g n lim ps w v x v1 w1 → Extends (named_in s w g v.count) (named_in s w1 g v1.count)
  appends_extends w v x v1 w1 a = subst (Extends (named_in s w g v.count)) (sym a.texts-are) (new_extends (named_in s w g v.count) x.texts)

  pub appends_number : (w : List ℕ) (v : Appended) (x : Piece) (v1 : Appended) (w1 : List ℕ) → Appends s g n lim ps w v x v1 w1 → (t : Text) → has t (named_in s w g v.count) ≡ true
      → number (named_in s w1 g v1.count) t ≡ number (named_in s w g v.count) t
  appends_number w v x v1 w1 a t h = extends_number (named_in s w g v.count) (named_in s w1 g v1.count) t (appends_extends w v x v1 w1 a) h
