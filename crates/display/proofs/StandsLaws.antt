-- A symbol that stands in work: what is read of its command by the code, what stands inside, and its printed form by parts. Assumes nothing.
use mathlib.Core.Path.{◌≡◌, refl, sym, ap, ◌∙◌}
use mathlib.Core.Bool.{Bool, true, false, cond, ◌||◌}
use mathlib.Core.List.{List, [], ◌∷◌, ◌++◌, append-nil, append_assoc}
use Prim.Native.Nat.{ℕ, zero, suc, ◌+◌, ◌-◌, ◌^◌, ◌<◌, ◌≤◌}
use native.Mathlib.Omega.{arith}
use borrow.Author.Tests.{ne_eqb}
use lib.Dec.{eqb}
use lib.ListN.{length, get_or, length-append}
use Rattle.octets.specs.Working.Choice.{pick}
use Rattle.octets.specs.Plain.Numbers.{le_at, le}
use Rattle.octets.specs.Plain.Runs.{Lies}
use Rattle.octets.proofs.LiesLaws.{lies_first, lies_split, lies_inside}
use Rattle.octets.proofs.NumbersLaws.{length-le}
use Rattle.parse_tree.specs.Plain.Tree.{Text, Op, star, plus, question, Leaf, Around, Over, Sym, Syms, ambiguous, bare, quoted, regex, nonterminal, lookahead, lookbehind, error, repeat, choose, name, macro, group, leaf, around, over, nil, cons, count}
use Rattle.parse_tree.specs.Plain.Texts.{has, number}
use Rattle.parse_tree.specs.Plain.WriteTape.{bit, op_code}
use Rattle.parse_tree.specs.Plain.Display.{escaped, shown_op, shown_leaf, shown_before, shown_behind, opening, separator, closing, shown, shown_all, shown_more, print}
use Rattle.parse_tree.specs.Working.Nodes.{leaf_code, leaf_operand, symbol_bytes, node_bytes, size_of, span_bytes, long_of}
use Rattle.parse_tree.specs.Working.Encode.{leaf_node, around_node, over_node, sym_bytes, syms_bytes}
use Rattle.parse_tree.specs.Working.Within.{SpanWithin, LeafWithin, AroundWithin, OverWithin, SymWithin, SymsWithin}
use Rattle.parse_tree.specs.declared.syntax.Span.{Span}
use Rattle.parse_tree.specs.Working.Nested.{inside_by}
use Rattle.parse_tree.proofs.DisplayLaws.{shown_all_app}
use Rattle.parse_tree.proofs.SizeLaws.{length_span}
use Rattle.parse_tree.proofs.TextLaws.{text_number}
use Rattle.parse_tree.proofs.FieldLaws.{byte_read, le-read_then, span_read}
use Rattle.laws.specs.Flat.{sym_node, children}
use Rattle.laws.proofs.Flat.{sym_bytes_lem, node_size}
use Rattle.texts.specs.declared.Map.{Map}
use Rattle.texts.specs.Table.{texts}
use Rattle.display.specs.Standing.{SymStands, SymsStand}
use Rattle.display.specs.Follow.{quoted_text, word_at, leaf_text, mark_text, label_text, name_text, before_by, op_byte, behind_by, between_by}

-- ---- a printed form by parts

-- what stands before the symbols straight inside
unfoldable pub before_text : Sym → Text
before_text (leaf s l) = shown_leaf l []
before_text (around s a x) = shown_before a []
before_text (over s o xs) = opening o []

-- between them
unfoldable pub between_text : Sym → Text
between_text (leaf s l) = 0x20 ∷ []
between_text (around s a x) = 0x20 ∷ []
between_text (over s o xs) = separator o

-- and behind
unfoldable pub behind_text : Sym → Text
behind_text (leaf s l) = []
behind_text (around s a x) = shown_behind a []
behind_text (over s o xs) = closing o ∷ []

before-then : (a : Around) (r : Text) → shown_before a r ≡ shown_before a [] ++ r
unfolding shown_before
before-then (repeat o) r = refl
before-then choose r = refl
before-then (name true n) r = ap {B = Text} (λ l. 109 ∷ 117 ∷ 116 ∷ 32 ∷ l) (sym (append_assoc n (58 ∷ []) r))
before-then (name false n) r = sym (append_assoc n (58 ∷ []) r)

opening-then : (o : Over) (r : Text) → opening o r ≡ opening o [] ++ r
unfolding opening
opening-then (macro n) r = sym (append_assoc n (60 ∷ []) r)
opening-then group r = refl

-- theorem: a printed form is its parts
pub print-parts : (x : Sym) → print x ≡ before_text x ++ shown_all (children x) (between_text x) (behind_text x)
unfolding print shown shown_all shown_more before_text between_text behind_text children
print-parts (leaf s l) = sym (append-nil (shown_leaf l []))
print-parts (around s a x) = before-then a (shown x (shown_behind a []))
print-parts (over s o xs) = opening-then o (shown_all xs (separator o) (closing o ∷ []))

-- theorem: a printed form is what stands before, inside and behind
pub print-whole : (x : Sym) → print x ≡ before_text x ++ (shown_all (children x) (between_text x) [] ++ behind_text x)
print-whole x = print-parts x ∙ ap (λ (y : Text). before_text x ++ y) (sym (shown_all_app (children x) (between_text x) [] (behind_text x)))

escaped-then : (t r u : Text) → escaped t r ++ u ≡ escaped t (r ++ u)
unfolding escaped
escaped-then [] r u = refl
escaped-then (b ∷ bs) r u = go (eqb b 34 || eqb b 92) (escaped-then bs r u)
  where
    go : (c : Bool) → escaped bs r ++ u ≡ escaped bs (r ++ u) → cond {A = Text} c (92 ∷ b ∷ escaped bs r) (b ∷ escaped bs r) ++ u ≡ cond {A = Text} c (92 ∷ b ∷ escaped bs (r ++ u)) (b ∷ escaped bs (r ++ u))
    go true h = ap {B = Text} (λ l. 92 ∷ b ∷ l) h
    go false h = ap {B = Text} (λ l. b ∷ l) h

-- a byte between quotes by itself
pub escaped-one : (b : ℕ) (bs : Text) → escaped (b ∷ bs) [] ≡ escaped (b ∷ []) [] ++ escaped bs []
unfolding escaped
escaped-one b bs = go (eqb b 34 || eqb b 92)
  where
    go : (c : Bool) → cond {A = Text} c (92 ∷ b ∷ escaped bs []) (b ∷ escaped bs []) ≡ cond {A = Text} c (92 ∷ b ∷ []) (b ∷ []) ++ escaped bs []
    go true = refl
    go false = refl

quoted_then : (t r : Text) → quoted_text t ++ r ≡ 0x22 ∷ escaped t (0x22 ∷ r)
unfolding quoted_text
quoted_then t r = ap {B = Text} (λ l. 34 ∷ l) (append_assoc (escaped t []) (34 ∷ []) r ∙ escaped-then t [] (34 ∷ r))

-- ---- what the code reads at a place, and the symbol that stands there
pub record Reads (wd : ℕ) (ts : List Text) (w : List ℕ) (at : ℕ) (x : Sym) : Type 0 where
  pub high : 32 ≤ get_or w at 0
  pub long : long_of wd (get_or w at 0) ≡ size_of wd (sym_node ts x)
  pub held : inside_by wd w at (get_or w at 0) ≡ count (children x)
  pub before : before_by wd ts w at (get_or w at 0) ≡ before_text x
  pub between : (k : ℕ) → between_by (get_or w at 0) (suc k) ≡ between_text x
  pub behind : behind_by w at (get_or w at 0) ≡ behind_text x

-- what stands before any but the first
pub more : (c k : ℕ) → between_by c (suc k) ≡ pick (eqb c 37) (0x2c ∷ 0x20 ∷ []) (0x20 ∷ [])
unfolding between_by pick
more c k = cc (ne_eqb (suc k) 0 (λ q. absurd (omega (arith, q))))

op_shown : (o : Op) → op_byte (op_code o) ≡ shown_op o
unfolding op_byte pick
op_shown star = refl
op_shown plus = refl
op_shown question = refl

name_shown : (m : Bool) (x : Text) → name_text (bit m) x ≡ shown_before (name m x) []
unfolding name_text label_text pick shown_before
name_shown true x = refl
name_shown false x = refl

module _ (wd : ℕ) (ts : List Text) (w : List ℕ) (at d : ℕ) where
  -- by the code c
  coded : (x : Sym) (c : ℕ) (ys : List ℕ) → Lies w at (c ∷ ys) d → 32 ≤ c → long_of wd c ≡ size_of wd (sym_node ts x) → inside_by wd w at c ≡ count (children x) → before_by wd ts w at c ≡ before_text x
      → pick (eqb c 37) (0x2c ∷ 0x20 ∷ []) (0x20 ∷ []) ≡ between_text x → behind_by w at c ≡ behind_text x → Reads wd ts w at x
  coded x c ys l a b e f g h =
      let z = (lies_first w at c ys d l).1 in
      record { high = rw z a; long = rw z b; held = rw z e; before = rw z f; between = λ k. rw z (more c k ∙ g); behind = rw z h }

  word_is : (p : ℕ) (x : Text) → has x ts ≡ true → le_at wd w p ≡ number ts x → word_at wd ts w p ≡ x
  unfolding word_at
  word_is p x h e = ap (λ (n : ℕ). get_or ts n []) e ∙ text_number ts x h

  module _ (sp : Span) (f : SpanWithin sp) where
    -- what stands behind the span
    spanned : (c : ℕ) (ys : List ℕ) → Lies w at (c ∷ (span_bytes sp ++ ys)) d → Lies w (at + 9) ys d
    spanned c ys l =
        let x0 = lies_first w at c _ d l in
        (span_read w d (at + 1) (at + 9) (omega arith) f x0.2).1

    numbered : (p v : ℕ) (ys : List ℕ) (n : ℕ) → v < 256 ^ n → Lies w p (le n v ++ ys) d → (le_at n w p ≡ v) × Lies w (p + n) ys d
    numbered p v ys n k l = le-read_then w d p (p + n) n refl k l

    numbered-last : (p v n : ℕ) → v < 256 ^ n → Lies w p (le n v) d → le_at n w p ≡ v
    numbered-last p v n k l = let z = append-nil (le n v) in (numbered p v [] n k (rw (← z) at l)).0

    -- the text of a leaf
    leaf_word : (c : ℕ) (x : Text) → has x ts ≡ true → number ts x < 256 ^ wd → Lies w at (c ∷ (span_bytes sp ++ le wd (number ts x))) d → word_at wd ts w (at + 9) ≡ x
    leaf_word c x h k l = word_is (at + 9) x h (numbered-last (at + 9) (number ts x) wd k (spanned c _ l))

    leaf_reads : (four : Bool) (l : Leaf) → LeafWithin four wd ts l → Lies w at (node_bytes wd (sym_node ts (leaf sp l))) d → Reads wd ts w at (leaf sp l)
    unfolding sym_node children count leaf_node node_bytes symbol_bytes leaf_code leaf_operand size_of long_of inside_by before_by leaf_text mark_text behind_by before_text between_text behind_text shown_leaf pick
    leaf_reads four (ambiguous x) h l = coded _ 32 _ l (omega arith) (simp (length-append, length_span, length-le) (omega arith)) refl (leaf_word 32 x h.0 h.1 l ∙ sym (append-nil x)) refl refl
    leaf_reads four (bare x) h l = coded _ 33 _ l (omega arith) (simp (length-append, length_span, length-le) (omega arith)) refl (leaf_word 33 x h.0 h.1 l ∙ sym (append-nil x)) refl refl
    leaf_reads four (quoted x) h l =
        coded _ 34 _ l (omega arith) (simp (length-append, length_span, length-le) (omega arith)) refl (ap quoted_text (leaf_word 34 x h.0 h.1 l) ∙ sym (append-nil (quoted_text x)) ∙ quoted_then x []) refl refl
    leaf_reads four (regex x) h l =
        coded _ 35 _ l (omega arith) (simp (length-append, length_span, length-le) (omega arith)) refl
        (ap {B = Text} (λ y. 114 ∷ 35 ∷ (quoted_text y ++ (35 ∷ []))) (leaf_word 35 x h.0 h.1 l) ∙ ap {B = Text} (λ y. 114 ∷ 35 ∷ y) (quoted_then x (35 ∷ []))) refl refl
    leaf_reads four (nonterminal x) h l =
        coded _ 36 _ l (omega arith) (simp (length-append, length_span, length-le) (omega arith)) refl (leaf_word 36 x h.0 h.1 l ∙ sym (append-nil x)) refl refl
    leaf_reads four lookahead h l = coded _ 42 _ l (omega arith) (simp (length-append, length_span) (omega arith)) refl refl refl refl
    leaf_reads four lookbehind h l = coded _ 43 _ l (omega arith) (simp (length-append, length_span) (omega arith)) refl refl refl refl
    leaf_reads four error h l = coded _ 44 _ l (omega arith) (simp (length-append, length_span) (omega arith)) refl refl refl refl

    around_reads : (four : Bool) (a : Around) (x : Sym) → AroundWithin four wd ts a → Lies w at (node_bytes wd (sym_node ts (around sp a x))) d → Reads wd ts w at (around sp a x)
    unfolding sym_node children count around_node node_bytes symbol_bytes size_of long_of inside_by before_by behind_by before_text between_text behind_text shown_before shown_behind pick
    around_reads four (repeat o) x h l =
        let b = (byte_read w d (at + 9) (at + 10) (omega arith) (spanned 38 _ l)).0 in
        coded _ 38 _ l (omega arith) (simp (length-append, length_span) (omega arith)) refl refl refl (ap {B = Text} (λ (v : ℕ). op_byte v ∷ []) b ∙ ap {B = Text} (λ (v : ℕ). v ∷ []) (op_shown o))
    around_reads four choose x h l = coded _ 39 _ l (omega arith) (simp length_span (omega arith)) refl refl refl refl
    around_reads four (name m n) x h l =
        let b = byte_read w d (at + 9) (at + 10) (omega arith) (spanned 40 _ l) in
        let u = word_is (at + 10) n h.0 (numbered-last (at + 10) (number ts n) wd h.1 b.1) in
        let z : name_text (get_or w (at + 9) 0) (word_at wd ts w (at + 10)) ≡ name_text (bit m) n = cc b.0 in
        coded _ 40 _ l (omega arith) (simp (length-append, length_span, length-le) (omega arith)) refl (z ∙ name_shown m n) refl refl

    over_reads : (four : Bool) (o : Over) (xs : Syms) → OverWithin four wd ts o (count xs) → Lies w at (node_bytes wd (sym_node ts (over sp o xs))) d → Reads wd ts w at (over sp o xs)
    unfolding sym_node children over_node node_bytes symbol_bytes size_of long_of inside_by before_by behind_by before_text between_text behind_text opening pick
    over_reads four (macro n) xs h l =
        let v = numbered (at + 9) (number ts n) (count xs ∷ []) wd h.0.1 (spanned 37 _ l) in
        let b = (byte_read w d (at + 9 + wd) (at + 10 + wd) (omega arith) v.1).0 in
        coded _ 37 _ l (omega arith) (simp (length-append, length_span, length-le) (omega arith)) b (ap {B = Text} (λ (y : Text). y ++ (60 ∷ [])) (word_is (at + 9) n h.0.0 v.0)) refl refl
    over_reads four group xs h l =
        coded _ 41 _ l (omega arith) (simp (length-append, length_span, length-le) (omega arith)) (numbered-last (at + 9) (count xs) 2 h (spanned 41 _ l)) refl refl refl

  sym_reads : (four : Bool) (left : ℕ) (x : Sym) → SymWithin four wd ts x left → Lies w at (node_bytes wd (sym_node ts x)) d → Reads wd ts w at x
  sym_reads four zero (leaf sp l) h k = absurd h
  sym_reads four (suc left) (leaf sp l) h k = leaf_reads sp h.0 four l h.1 k
  sym_reads four zero (around sp a x) h k = absurd h
  sym_reads four (suc left) (around sp a x) h k = around_reads sp h.0 four a x h.1 k
  sym_reads four zero (over sp o xs) h k = absurd h
  sym_reads four (suc left) (over sp o xs) h k = over_reads sp h.0 four o xs h.1 k

-- ---- what stands inside
module _ (four : Bool) (wd : ℕ) (ts : List Text) where
  children-within : (x : Sym) (left : ℕ) → SymWithin four wd ts x left → SymsWithin four wd ts (children x) (left - 1)
  unfolding children
  children-within (leaf s l) zero h = absurd h
  children-within (leaf s l) (suc left) h = tt
  children-within (around s a x) zero h = absurd h
  children-within (around s a x) (suc left) h = let z : suc left - 1 ≡ left = omega arith in rw z (h.2, tt)
  children-within (over s o xs) zero h = absurd h
  children-within (over s o xs) (suc left) h = let z : suc left - 1 ≡ left = omega arith in rw z h.2

  some_left : (x : Sym) (left : ℕ) → SymWithin four wd ts x left → 0 < left
  some_left (leaf s l) zero h = absurd h
  some_left (leaf s l) (suc left) h = omega arith
  some_left (around s a x) zero h = absurd h
  some_left (around s a x) (suc left) h = omega arith
  some_left (over s o xs) zero h = absurd h
  some_left (over s o xs) (suc left) h = omega arith

-- a symbol that stands there
pub record Standing (s w : List ℕ) (m : Map) (wd : ℕ) (four : Bool) (left at e : ℕ) (x : Sym) : Type 0 where
  pub reads : Reads wd (texts s w m) w at x
  pub deep : 0 < left
  pub room : at + long_of wd (get_or w at 0) ≤ length w
  pub within : at < length w
  pub inside : SymsStand s w m wd four (left - 1) (at + long_of wd (get_or w at 0)) e (children x)

-- theorem: what is read at the place of a symbol, and what stands inside it
pub standing : (s w : List ℕ) (m : Map) (wd : ℕ) (four : Bool) (left at e : ℕ) (x : Sym) → SymStands s w m wd four left at e x → Standing s w m wd four left at e x
unfolding size_of
standing s w m wd four left at e x h =
    let ts = texts s w m in
    let z = sym_bytes_lem wd (texts s w m) x in
    let l = rw z at h.lies in
    let k = lies_split w at e (node_bytes wd (sym_node (texts s w m) x)) (syms_bytes wd (texts s w m) (children x)) l in
    let r = sym_reads wd (texts s w m) w at (at + length (node_bytes wd (sym_node (texts s w m) x))) four left x h.within k.0 in
    let n = node_size wd (texts s w m) x in
    let j = r.long in
    let b = lies_inside w at (at + length (node_bytes wd (sym_node (texts s w m) x))) (node_bytes wd (sym_node (texts s w m) x)) (omega arith) k.0 in
    record {
      reads = r;
      deep = some_left four wd (texts s w m) x left h.within;
      room = omega arith;
      within = omega arith;
      inside = rw j (record { within = children-within four wd (texts s w m) x left h.within; lies = k.1 });
    }

-- theorem: the first of symbols that stand one behind another, and the others
pub first_stands : (s w : List ℕ) (m : Map) (wd : ℕ) (four : Bool) (left at e : ℕ) (x : Sym) (xs : Syms) → SymsStand s w m wd four left at e (cons x xs)
    → SymStands s w m wd four left at (at + length (sym_bytes wd (texts s w m) x)) x × SymsStand s w m wd four left (at + length (sym_bytes wd (texts s w m) x)) e xs
unfolding syms_bytes
first_stands s w m wd four left at e x xs h =
    let k = lies_split w at e (sym_bytes wd (texts s w m) x) (syms_bytes wd (texts s w m) xs) h.lies in
    (record { within = h.within.0; lies = k.0 }, record { within = h.within.1; lies = k.1 })

-- no symbols end where they begin
pub none_stand : (s w : List ℕ) (m : Map) (wd : ℕ) (four : Bool) (left at e : ℕ) → SymsStand s w m wd four left at e nil → at ≡ e
unfolding syms_bytes
none_stand s w m wd four left at e h = omega (arith, h.lies.end)

-- one symbol is a list of one
pub one_stands : (s w : List ℕ) (m : Map) (wd : ℕ) (four : Bool) (left at e : ℕ) (x : Sym) → SymStands s w m wd four left at e x → SymsStand s w m wd four left at e (cons x nil)
unfolding syms_bytes
one_stands s w m wd four left at e x h = let z = append-nil (sym_bytes wd (texts s w m) x) in record { within = (h.within, tt); lies = rw z h.lies }
