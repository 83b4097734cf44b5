-- What is read of an item that stands in work: a nonterminal's line and its alternatives, and where a terminal ends. Assumes nothing.
use mathlib.Core.Path.{◌≡◌, refl, sym, ap, ◌∙◌}
use mathlib.Core.Bool.{Bool, true, false, cond}
use mathlib.Core.List.{List, [], ◌∷◌, ◌++◌, append_assoc}
use Prim.Native.Nat.{ℕ, ◌+◌, ◌≤◌}
use native.Mathlib.Omega.{arith}
use lib.ListN.{length, get_or, length-append}
use Rattle.octets.specs.Working.Choice.{pick}
use Rattle.octets.specs.Plain.Numbers.{le_at, le}
use Rattle.octets.specs.Plain.Runs.{Lies}
use Rattle.octets.proofs.LiesLaws.{lies_split, lies_inside, lies_from}
use Rattle.octets.proofs.NumbersLaws.{length-le}
use Rattle.parse_tree.specs.Plain.Tree.{Text, Source, extern, match, Nonterminal, item, terminal}
use Rattle.parse_tree.specs.Plain.Texts.{ascii, number}
use Rattle.parse_tree.specs.Plain.WriteTape.{bytes_of_each, bit}
use Rattle.parse_tree.specs.Working.Nodes.{node_bytes, span_bytes, span_in}
use Rattle.parse_tree.specs.Working.Encode.{nonterminal_node, argument_bytes, alternative_bytes, item_bytes, source_code}
use Rattle.parse_tree.specs.Working.Within.{SpanWithin, NonterminalWithin}
use Rattle.parse_tree.specs.declared.syntax.Span.{Span}
use Rattle.parse_tree.proofs.FieldLaws.{byte_read, span_read, le-read_then}
use Rattle.parse_tree.proofs.SpanLaws.{length_span}
use Rattle.parse_tree.proofs.TextLaws.{text_number}
use Rattle.texts.specs.declared.Map.{Map}
use Rattle.texts.specs.Table.{texts}
use Rattle.passes.specs.Levels.{number_digits}
use Rattle.resolve.proofs.GrammarLaws.{headed}
use Rattle.grades.specs.Annotations.{first_alternative}
use Rattle.grades.proofs.AlternativesMean.{first_means}
use Rattle.display.specs.Follow.{word_at}
use Rattle.listing.specs.Listing.{shown_span, shown_flags}
use Rattle.listing.specs.Tree.{flags_line, line_text, head_text}
use Rattle.listing.specs.Walk.{OneStands, AllStand, AlternativeGood, ItemGood}

-- ---- a nonterminal's line
flags_are : (inline public : Bool) → flags_line (bit inline + (bit public + bit public)) ≡ (cond public (ascii " pub") [] ++ cond inline (ascii " inline") []) ++ (0x0a ∷ [])
unfolding flags_line pick
flags_are true true = refl
flags_are true false = refl
flags_are false true = refl
flags_are false false = refl

unfoldable pub head_of : Nonterminal → Text
head_of d = d.name ++ (0x20 ∷ (shown_span d.span ++ (shown_flags d ++ (0x0a ∷ []))))

module _ (wd : ℕ) (ts : List Text) (w : List ℕ) (at : ℕ) (d : Nonterminal) where
  line_is : line_text d.span.0 d.span.1 (bit d.inline + (bit d.public + bit d.public)) ≡ 0x20 ∷ (shown_span d.span ++ (shown_flags d ++ (0x0a ∷ [])))
  unfolding line_text shown_span shown_flags
  line_is =
      let N : Text = number_digits d.span.0 in
      let M : Text = number_digits d.span.1 in
      let F : Text = (cond d.public (ascii " pub") [] ++ cond d.inline (ascii " inline") []) ++ (0x0a ∷ []) in
      ap (λ (f : Text). 0x20 ∷ (N ++ (0x2d ∷ (M ++ f)))) (flags_are d.inline d.public) ∙ ap (λ (x : Text). 0x20 ∷ x) (sym (append_assoc N (0x2d ∷ M) F))

  -- theorem: what is put of it
  head_means : le_at 4 w (at + 1) ≡ d.span.0 → le_at 4 w (at + 5) ≡ d.span.1 → get_or w (at + 9 + wd) 0 ≡ bit d.inline + (bit d.public + bit d.public) → le_at wd w (at + 9) ≡ number ts d.name
      → get_or ts (number ts d.name) [] ≡ d.name → head_text wd ts w at ≡ head_of d
  unfolding head_text head_of word_at
  head_means p q r u t =
      let z : get_or ts (le_at wd w (at + 9)) [] ≡ d.name = ap (λ (k : ℕ). get_or ts k []) u ∙ t in
      let l : line_text (le_at 4 w (at + 1)) (le_at 4 w (at + 5)) (get_or w (at + 9 + wd) 0) ≡ 0x20 ∷ (shown_span d.span ++ (shown_flags d ++ (0x0a ∷ []))) =
      ap (λ (k : ℕ). line_text k (le_at 4 w (at + 5)) (get_or w (at + 9 + wd) 0)) p ∙ ap (λ (k : ℕ). line_text d.span.0 k (get_or w (at + 9 + wd) 0)) q ∙ ap (λ (k : ℕ). line_text d.span.0 d.span.1 k) r ∙ line_is in
      ap (λ (k : Text). k ++ line_text (le_at 4 w (at + 1)) (le_at 4 w (at + 5)) (get_or w (at + 9 + wd) 0)) z ∙ ap (λ (k : Text). d.name ++ k) l

-- ---- what is read
pub record NonterminalReads (wd : ℕ) (s w : List ℕ) (m : Map) (at e : ℕ) (d : Nonterminal) : Type 0 where
  pub code : get_or w at 0 ≡ 16
  pub room : at + 13 + wd ≤ length w
  pub head : head_text wd (texts s w m) w at ≡ head_of d
  pub many : le_at 2 w (at + 11 + wd) ≡ length d.alternatives
  pub alternatives : AllStand (AlternativeGood wd) (alternative_bytes wd) s w m (first_alternative wd w at) e d.alternatives
  pub upto : at + 13 + wd ≤ e

pub record TerminalReads (wd : ℕ) (w : List ℕ) (at e : ℕ) : Type 0 where
  pub code : get_or w at 0 ≡ 16 → ⊥
  pub inside : e ≤ length w
  pub end : at + 9 + wd ≡ e

module _ (wd : ℕ) (s w : List ℕ) (m : Map) (at e : ℕ) where
  abbrev ts : List Text
  ts = texts s w m

  span_at_lem : (d : Nonterminal) → span_in w (at + 1) ≡ d.span → (le_at 4 w (at + 1) ≡ d.span.0) × (le_at 4 w (at + 5) ≡ d.span.1)
  unfolding span_in
  span_at_lem d h = let z : at + 5 ≡ at + 1 + 4 = omega arith in (ap (λ (x : Span). x.0) h, ap (le_at 4 w) z ∙ ap (λ (x : Span). x.1) h)

  nonterminal_read : (d : Nonterminal) → NonterminalWithin false wd ts d → Lies w at (item_bytes wd ts (item d)) e → NonterminalReads wd s w m at e d
  unfolding item_bytes nonterminal_node node_bytes AlternativeGood
  nonterminal_read d h l =
      let H = headed false w wd ts at d e h l in
      let F : ℕ = bit d.inline + (bit d.public + bit d.public) in
      let R : List ℕ = length d.args ∷ le 2 (length d.alternatives) in
      let N : List ℕ = 16 ∷ (span_bytes d.span ++ (le wd (number ts d.name) ++ (F ∷ R))) in
      let P : List ℕ = bytes_of_each (argument_bytes wd ts) d.args ++ bytes_of_each (alternative_bytes wd ts) d.alternatives in
      let s1 = lies_split w at e N P l in
      let b = byte_read w _ at (at + 1) refl s1.0 in
      let c = span_read w _ (at + 1) (at + 9) (omega arith) h.span b.1 in
      let k = le-read_then w _ (at + 9) (at + 9 + wd) wd refl h.name.1 c.1 in
      let f = byte_read w _ (at + 9 + wd) (at + 10 + wd) (omega arith) k.1 in
      let n : at + length N ≡ at + 13 + wd = omega (arith, f.1.end, length-le 2 (length d.alternatives)) in
      let sp = span_at_lem d H.span in
      record {
        code = H.code;
        room = omega (arith, n, lies_inside w at _ N (omega arith) s1.0);
        head = head_means wd ts w at d sp.0 sp.1 f.0 H.name (text_number ts d.name h.name.0);
        many = H.many;
        alternatives = record { within = h.alternatives; lies = lies_from (sym (first_means false wd ts w at e d H)) H.alternatives };
        upto = omega (arith, n, s1.1.end);
      }

  source_other : (o : Source) → source_code o ≡ 16 → ⊥
  source_other extern q = absurd (omega (arith, q))
  source_other match q = absurd (omega (arith, q))

  terminal_read : (sp : Span) (o : Source) (x : Text) → SpanWithin sp → Lies w at (item_bytes wd ts (terminal sp o x)) e → TerminalReads wd w at e
  unfolding item_bytes node_bytes
  terminal_read sp o x h l =
      let N : List ℕ = source_code o ∷ (span_bytes sp ++ le wd (number ts x)) in
      let b = byte_read w e at (at + 1) refl l in
      record {
        code = λ q. source_other o (sym b.0 ∙ q);
        inside = lies_inside w at e N (omega arith) l;
        end = omega (arith, l.end, length-append (span_bytes sp) (le wd (number ts x)), length_span sp, length-le wd (number ts x));
      }

  -- theorem: what is read of it
  pub nonterminal_reads : (d : Nonterminal) → OneStands (ItemGood wd) (item_bytes wd) s w m at e (item d) → NonterminalReads wd s w m at e d
  unfolding ItemGood
  nonterminal_reads d st = nonterminal_read d st.within st.lies

  pub terminal_reads : (sp : Span) (o : Source) (x : Text) → OneStands (ItemGood wd) (item_bytes wd) s w m at e (terminal sp o x) → TerminalReads wd w at e
  unfolding ItemGood
  terminal_reads sp o x st = terminal_read sp o x st.within.0 st.lies
