-- The names' bytes, counted and put: name_length, count_bytes, put_level, put_name, put_names. Assumes nothing.
use mathlib.Core.Path.{◌≡◌, refl, sym, ap, ◌∙◌}
use mathlib.Core.Bool.{Bool, true, false}
use mathlib.Core.List.{List, [], ◌∷◌, ◌++◌, append_assoc}
use Prim.Native.Nat.{ℕ, zero, suc, ◌+◌, ◌*◌, ◌-◌, ◌/◌, ◌%◌, ◌≤◌, ◌<◌}
use native.Mathlib.Omega.{arith}
use borrow.Author.Rules.{rules}
use lib.ListN.{length, get_or, length-append}
use mir.Syntax.{w64}
use mir.Val.{Fits}
use Rattle.std.specs.Prelude.{Ok, Err}
use Rattle.octets.specs.Working.Choice.{pick}
use Rattle.octets.specs.Plain.Numbers.{le}
use Rattle.octets.specs.Working.Stores.{store}
use Rattle.octets.proofs.NumbersLaws.{length-le}
use Rattle.octets.proofs.StoreLaws.{store-none, store-append, length_store}
use Rattle.parse_tree.specs.Plain.Tree.{Text}
use Rattle.parse_tree.specs.Plain.WriteTape.{bytes_of_each}
use Rattle.parse_tree.specs.Working.Nodes.{node_bytes}
use Rattle.parse_tree.specs.Working.Encode.{atom_bytes}
use Rattle.parse_tree.proofs.ReadingLaws.{bytes_more}
use Rattle.parse_tree.proofs.ReadBack.{atom_size}
use Rattle.texts.specs.declared.Map.{Map}
use Rattle.texts.specs.Atoms.{some_long}
use Rattle.texts.specs.Fields.{mark_at}
use Rattle.texts.specs.Table.{texts}
use Rattle.texts.proofs.AtomsLaws.{long_yes, long_no, long_last}
use Rattle.grades.specs.Grade.{level_digits, PutsDecimal}
use Rattle.precedence.specs.Names.{Naming, Based, BaseText, level_text, described_text, described_texts, named_text}
use Rattle.precedence.proofs.NamesHashCode.{named-described}
use Rattle.precedence.proofs.NamesFindCode.{naming-based}
use Rattle.grades.proofs.DecimalLaws.{digits-most}
use Rattle.levels.specs.Fresh.{new_texts, fresh_of, NameLong, PutsNames}

-- ---- name_length
module _ (s w : List ℕ) (m : Map) (n k : ℕ) (g : Naming s w m n) (l : m.count ≤ k) (h : k < n) where
  -- the text that a described name begins with can be read
  pub name_based : (x b : ℕ) → x ≡ mark_at w m.base k → b ≡ x / 4294967296 → Based s w m b
  name_based x b e p = rw p (naming-based s w m n g (x / 4294967296) (rw e (g.bases k l h)))

-- x is its mark, b and v are the base and the level that it tells
module _ (s w : List ℕ) (m : Map) (k : ℕ) (l : m.count ≤ k) (x b v : ℕ) (e : x ≡ mark_at w m.base k) (p : b ≡ x / 4294967296) (q : v ≡ x % 4294967296) (t : Text) (c : t ≡ get_or (texts s w m) b []) where
  -- a described name is that text and the level's digits
  pub name_is : named_text s w m k ≡ t ++ level_digits v
  unfolding level_text described_text
  name_is =
      named-described s w m k l ∙ ap (described_text s w m) (sym e) ∙ ap (λ (i : ℕ). get_or (texts s w m) i [] ++ level_digits (x % 4294967296)) (sym p)
      ∙ ap (λ (u : Text). u ++ level_digits (x % 4294967296)) (sym c) ∙ ap (λ (i : ℕ). t ++ level_digits i) (sym q)

  pub name_size : length (named_text s w m k) ≡ length t + length (level_digits v)
  name_size = ap length name_is ∙ length-append t (level_digits v)

pub length_done : (s w : List ℕ) (m : Map) (k : ℕ) → m.count ≤ k → (x b v : ℕ) → x ≡ mark_at w m.base k → b ≡ x / 4294967296 → v ≡ x % 4294967296 → (t : Text) → BaseText s w m b t
    → (z : ℕ) → z ≡ length (t ++ level_digits v) → NameLong s w m k z
length_done s w m k l x b v e p q t c z i = record {
  is = omega (arith, i, length-append t (level_digits v), name_size s w m k l x b v e p q t c.text);
  small = omega (arith, i, q, length-append t (level_digits v), digits-most v, c.short);
}

pub ruleset lengthening = (rules, name_based, length_done)

-- ---- one described name more
module _ (s w : List ℕ) (m : Map) where
  pub new_none : new_texts s w m m.count ≡ []
  unfolding described_texts
  new_none = let z : m.count - m.count ≡ 0 = omega arith in ap (described_texts s w m) z

  module _ (k : ℕ) (h : m.count ≤ k) where
    pub new_more : new_texts s w m (k + 1) ≡ new_texts s w m k ++ (named_text s w m k ∷ [])
    unfolding described_texts
    new_more =
        let z : k + 1 - m.count ≡ suc (k - m.count) = omega arith in
        let y : m.count + (k - m.count) ≡ k = omega arith in
        ap (described_texts s w m) z ∙ ap (λ (i : ℕ). new_texts s w m k ++ (described_text s w m (mark_at w m.base i) ∷ [])) y
        ∙ ap (λ (t : Text). new_texts s w m k ++ (t ∷ [])) (sym (named-described s w m k h))

    pub new_bytes_lem : bytes_of_each (atom_bytes 2) (new_texts s w m (k + 1)) ≡ bytes_of_each (atom_bytes 2) (new_texts s w m k) ++ atom_bytes 2 (named_text s w m k)
    new_bytes_lem = ap (bytes_of_each (atom_bytes 2)) new_more ∙ bytes_more (atom_bytes 2) (new_texts s w m k) (named_text s w m k)

    pub new_size_lem : length (bytes_of_each (atom_bytes 2) (new_texts s w m (k + 1))) ≡ length (bytes_of_each (atom_bytes 2) (new_texts s w m k)) + (3 + length (named_text s w m k))
    new_size_lem =
        ap length new_bytes_lem ∙ length-append (bytes_of_each (atom_bytes 2) (new_texts s w m k)) (atom_bytes 2 (named_text s w m k))
        ∙ ap (λ (i : ℕ). length (bytes_of_each (atom_bytes 2) (new_texts s w m k)) + i) (atom_size 2 (named_text s w m k))

    pub new_short : some_long (new_texts s w m (k + 1)) ≡ false → length (named_text s w m k) ≤ 65535
    new_short e = long_last (new_texts s w m k) (named_text s w m k) (ap some_long (sym new_more) ∙ e)

    pub new_rest : some_long (new_texts s w m (k + 1)) ≡ false → some_long (new_texts s w m k) ≡ false
    new_rest e = sym (long_no (new_texts s w m k) (named_text s w m k) (new_short e)) ∙ ap some_long (sym new_more) ∙ e

  -- those before a record are no more bytes than all
  pub size_grows : (k d : ℕ) → m.count ≤ k → length (bytes_of_each (atom_bytes 2) (new_texts s w m k)) ≤ length (bytes_of_each (atom_bytes 2) (new_texts s w m (k + d)))
  size_grows k zero h = let z : k + 0 ≡ k = omega arith in rw z (omega arith)
  size_grows k (suc d) h = let z : k + suc d ≡ k + d + 1 = omega arith in rw z (omega (arith, size_grows k d h, new_size_lem (k + d) (omega arith)))

  -- and none of them is too long if none of all is
  pub short_before : (k d : ℕ) → m.count ≤ k → some_long (new_texts s w m (k + d)) ≡ false → some_long (new_texts s w m k) ≡ false
  short_before k zero h e = let z : k + 0 ≡ k = omega arith in rw z at e
  short_before k (suc d) h e = let z : k + suc d ≡ k + d + 1 = omega arith in short_before k d h (new_rest (k + d) (omega arith) (rw z at e))

-- ---- count_bytes: the names before k are counted
pub record Counting (s w : List ℕ) (m : Map) (n k bytes : ℕ) (long : Bool) : Type 0 where
  pub from : m.count ≤ k
  pub upto : k ≤ n
  pub few : n ≤ 4294967295
  pub size : bytes ≡ length (bytes_of_each (atom_bytes 2) (new_texts s w m k))
  pub far : long ≡ some_long (new_texts s w m k)
  pub small : bytes ≤ 65549 * k

pub count-start : (s w : List ℕ) (m : Map) (n : ℕ) → Naming s w m n → Counting s w m n m.count 0 false
unfolding bytes_of_each some_long
count-start s w m n g = record {
  from = omega arith;
  upto = g.upto;
  few = g.few;
  size = ap (λ (ts : List Text). length (bytes_of_each (atom_bytes 2) ts)) (sym (new_none s w m));
  far = ap some_long (sym (new_none s w m));
  small = omega arith;
}

module _ (s w : List ℕ) (m : Map) (n k bytes : ℕ) (long : Bool) (c : Counting s w m n k bytes long) where
  module _ (l : ℕ) (e : NameLong s w m k l) where
    pub count_fits : Fits w64 (bytes + (3 + l))
    count_fits = record { fits = omega (arith, c.small, c.upto, c.few, e.small) }

    module _ (h : k < n) (r : Bool) where
      count_next : r ≡ some_long (new_texts s w m k ++ (named_text s w m k ∷ [])) → Counting s w m n (k + 1) (bytes + (3 + l)) r
      count_next p = record {
        from = omega (arith, c.from);
        upto = omega arith;
        few = c.few;
        size = omega (arith, c.size, e.is, new_size_lem s w m k c.from);
        far = p ∙ ap some_long (sym (new_more s w m k c.from));
        small = omega (arith, c.small, e.small);
      }

      pub count_long : 65535 < l → r ≡ true → Counting s w m n (k + 1) (bytes + (3 + l)) r
      count_long z p = count_next (p ∙ sym (long_yes (new_texts s w m k) (named_text s w m k) (omega (arith, e.is))))

      pub count-short : l ≤ 65535 → r ≡ long → Counting s w m n (k + 1) (bytes + (3 + l)) r
      count-short z p = count_next (p ∙ c.far ∙ sym (long_no (new_texts s w m k) (named_text s w m k) (omega (arith, e.is))))

  module _ (h : n ≤ k) where
    at_end : k ≡ n
    at_end = omega (arith, c.upto)

    pub count_long_done : long ≡ true → Err bytes ≡ fresh_of (new_texts s w m n)
    unfolding fresh_of pick
    count_long_done e = let z = at_end in rw (← z, ← c.far, e, ← c.size) refl

    pub count_done : long ≡ false → Ok bytes ≡ fresh_of (new_texts s w m n)
    unfolding fresh_of pick
    count_done e = let z = at_end in rw (← z, ← c.far, e, ← c.size) refl

pub ruleset counting = (rules, count-start, count_fits, count_long, count-short, count_long_done, count_done)

-- ---- put_level: the command, the text and the digits, each behind the one before
module _ (t : Text) (v : ℕ) where
  module _ (o : List ℕ) (to : ℕ) (h : to + 3 + (length t + length (level_digits v)) ≤ length o) where
    pub put_base : to + 3 + length t ≤ length o
    put_base = omega arith

    pub put_digits : (b : List ℕ) → length b ≡ length o → to + 3 + length t + length (level_digits v) ≤ length b
    put_digits b q = omega (arith, q)

  module _ (z : ℕ) (p : z ≡ length (t ++ level_digits v)) where
    -- the atom: its command, the text, the digits
    atom_is : atom_bytes 2 (t ++ level_digits v) ≡ ((1 ∷ le 2 z) ++ t) ++ level_digits v
    unfolding atom_bytes node_bytes
    atom_is =
        let d = level_digits v in
        ap (λ (i : ℕ). (1 ∷ le 2 i) ++ (t ++ d)) (sym p) ∙ sym (append_assoc (1 ∷ le 2 z) t d)

    pub put_level_done : (o b r : List ℕ) (to q : ℕ) → b ≡ store o to ((1 ∷ le 2 z) ++ t) → PutsDecimal b (to + 3 + length t) v q r → PutsNames o to (atom_bytes 2 (t ++ level_digits v)) q r
    put_level_done o b r to q i u =
        let d = level_digits v in
        let y : List ℕ = 1 ∷ le 2 z in
        let x : to + 3 + length t ≡ to + length (y ++ t) = omega (arith, length-append y t, length-le 2 z) in
        let j : r ≡ store o to ((y ++ t) ++ d) = u.bytes ∙ ap (λ (l : List ℕ). store l (to + 3 + length t) d) i ∙ store-append o to (to + 3 + length t) (y ++ t) d x in
        record {
          bytes = j ∙ ap (store o to) (sym atom_is);
          after = omega (arith, u.after, atom_size 2 (t ++ d), length-append t d);
        }

pub ruleset level_putting = (rules, put_base, put_digits, put_level_done)

-- ---- put_name
module _ (s w : List ℕ) (m : Map) (k : ℕ) (l : m.count ≤ k) (x b v : ℕ) (e : x ≡ mark_at w m.base k) (p : b ≡ x / 4294967296) (q : v ≡ x % 4294967296) (t : Text) (c : BaseText s w m b t) where
  pub name_short : length (named_text s w m k) < 65536 → length t + length (level_digits v) < 65536
  name_short h = omega (arith, name_size s w m k l x b v e p q t c.text)

  pub name_room : (to n : ℕ) → to + 3 + length (named_text s w m k) ≤ n → to + 3 + (length t + length (level_digits v)) ≤ n
  name_room to n h = omega (arith, name_size s w m k l x b v e p q t c.text)

  pub put_name_done : (o r : List ℕ) (to z : ℕ) → PutsNames o to (atom_bytes 2 (t ++ level_digits v)) z r → PutsNames o to (atom_bytes 2 (named_text s w m k)) z r
  put_name_done o r to z u = let i = name_is s w m k l x b v e p q t c.text in rw i u

pub ruleset name_putting = (rules, name_based, name_short, name_room, put_name_done)

-- ---- put_names: those before k stand in o' from `to` on, and end at q
pub record NamesPut (s w : List ℕ) (m : Map) (n to : ℕ) (o o' : List ℕ) (k q : ℕ) : Type 0 where
  pub from : m.count ≤ k
  pub upto : k ≤ n
  pub few : n ≤ 4294967295
  pub short : some_long (new_texts s w m n) ≡ false
  pub room : to + length (bytes_of_each (atom_bytes 2) (new_texts s w m n)) ≤ length o
  pub bytes : o' ≡ store o to (bytes_of_each (atom_bytes 2) (new_texts s w m k))
  pub place : q ≡ to + length (bytes_of_each (atom_bytes 2) (new_texts s w m k))

pub names_start : (s w : List ℕ) (m : Map) (n to : ℕ) (o : List ℕ) → Naming s w m n → some_long (new_texts s w m n) ≡ false
    → to + length (bytes_of_each (atom_bytes 2) (new_texts s w m n)) ≤ length o → NamesPut s w m n to o o m.count to
unfolding bytes_of_each
names_start s w m n to o g e h = record {
  from = omega arith;
  upto = g.upto;
  few = g.few;
  short = e;
  room = h;
  bytes = sym (store-none o to) ∙ ap (λ (ts : List Text). store o to (bytes_of_each (atom_bytes 2) ts)) (sym (new_none s w m));
  place = let z : to ≡ to + 0 = omega arith in z ∙ ap (λ (ts : List Text). to + length (bytes_of_each (atom_bytes 2) ts)) (sym (new_none s w m));
}

module _ (s w : List ℕ) (m : Map) (n to : ℕ) (o o' : List ℕ) (k q : ℕ) (c : NamesPut s w m n to o o' k q) where
  pub names_same : length o' ≡ length o
  names_same = ap length c.bytes ∙ length_store o to (bytes_of_each (atom_bytes 2) (new_texts s w m k))

  module _ (h : k < n) where
    pub names_short : length (named_text s w m k) < 65536
    names_short =
        let z : n ≡ k + 1 + (n - (k + 1)) = omega arith in
        let e : some_long (new_texts s w m (k + 1 + (n - (k + 1)))) ≡ false = ap (λ (i : ℕ). some_long (new_texts s w m i)) (sym z) ∙ c.short in
        omega (arith, new_short s w m k c.from (short_before s w m (k + 1) (n - (k + 1)) (omega (arith, c.from)) e))

    pub names_room : q + 3 + length (named_text s w m k) ≤ length o'
    names_room =
        let z : k + 1 + (n - (k + 1)) ≡ n = omega arith in
        let g = rw z at (size_grows s w m (k + 1) (n - (k + 1)) (omega (arith, c.from))) in
        omega (arith, g, names_same, c.room, c.place, new_size_lem s w m k c.from)

    pub names_next : (r : List ℕ) (p : ℕ) → PutsNames o' q (atom_bytes 2 (named_text s w m k)) p r → NamesPut s w m n to o r (k + 1) p
    names_next r p u = record {
      from = omega (arith, c.from);
      upto = omega arith;
      few = c.few;
      short = c.short;
      room = c.room;
      bytes = u.bytes ∙ ap (λ (i : List ℕ). store i q (atom_bytes 2 (named_text s w m k))) c.bytes
          ∙ store-append o to q (bytes_of_each (atom_bytes 2) (new_texts s w m k)) (atom_bytes 2 (named_text s w m k)) c.place ∙ ap (store o to) (sym (new_bytes_lem s w m k c.from));
      place = omega (arith, u.after, c.place, new_size_lem s w m k c.from, atom_size 2 (named_text s w m k));
    }

  pub names_done : n ≤ k → PutsNames o to (bytes_of_each (atom_bytes 2) (new_texts s w m n)) q o'
  names_done h =
      let z : k ≡ n = omega (arith, c.upto) in
      let f = ap (λ (i : ℕ). bytes_of_each (atom_bytes 2) (new_texts s w m i)) z in
      record { bytes = c.bytes ∙ ap (store o to) f; after = c.place ∙ ap (λ (l : List ℕ). to + length l) f }

pub ruleset names_putting = (rules, names_start, names_same, names_short, names_room, names_next, names_done)
