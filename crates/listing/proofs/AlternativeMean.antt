-- What is read of an alternative that stands in work: its symbols, and the text of its action. Assumes nothing.
use mathlib.Core.Path.{◌≡◌, refl, sym, ap, ◌∙◌, subst}
use mathlib.Core.Bool.{false}
use mathlib.Core.List.{List, [], ◌∷◌, ◌++◌, append-nil}
use Prim.Native.Nat.{ℕ, zero, suc, ◌+◌, ◌^◌, ◌<◌, ◌≤◌}
use native.Mathlib.Omega.{arith}
use lib.ListN.{length, get_or, length-append}
use Rattle.octets.specs.Working.Choice.{pick}
use Rattle.octets.specs.Plain.Numbers.{le_at, le}
use Rattle.octets.specs.Plain.Runs.{Lies}
use Rattle.octets.proofs.LiesLaws.{lies_split, lies_inside, lies_to}
use Rattle.octets.proofs.NumbersLaws.{length-le}
use Rattle.parse_tree.specs.Plain.Tree.{Text, Action, no_action, user, fallible, lookahead_action, lookbehind_action, Alternative, conditions, count}
use Rattle.parse_tree.specs.Plain.Texts.{ascii, number}
use Rattle.parse_tree.specs.Plain.WriteTape.{bytes_of_each}
use Rattle.parse_tree.specs.Working.Nodes.{node_bytes, span_bytes}
use Rattle.parse_tree.specs.Working.Encode.{action_code, action_text, alternative_node, attribute_bytes, condition_bytes, syms_bytes, alternative_bytes}
use Rattle.parse_tree.specs.Working.Within.{ActionWithin, AlternativeWithin}
use Rattle.parse_tree.proofs.FieldLaws.{byte_read, span_read, le-read_then}
use Rattle.parse_tree.proofs.TextLaws.{text_number}
use Rattle.texts.specs.declared.Map.{Map}
use Rattle.texts.specs.Table.{texts}
use Rattle.grades.specs.Annotations.{symbols_from}
use Rattle.grades.proofs.AlternativesMean.{alternative_read}
use Rattle.display.specs.Standing.{SymsStand}
use Rattle.display.specs.Follow.{word_at}
use Rattle.listing.specs.Listing.{shown_action}
use Rattle.listing.specs.Tree.{arrow_text, side_text, action_by, action_at}
use Rattle.listing.specs.Walk.{OneStands, AlternativeGood}

power-some : (k : ℕ) → 0 < 256 ^ k
power-some zero = omega arith
power-some (suc k) = omega (arith, power-some k)

-- ---- its action
module _ (wd : ℕ) (ts : List Text) (w : List ℕ) (at : ℕ) where
  by_code : (c : ℕ) → get_or w (at + 11) 0 ≡ c → action_at wd ts w at ≡ action_by c (word_at wd ts w (at + 12))
  unfolding action_at
  by_code c e = ap (λ (k : ℕ). action_by k (word_at wd ts w (at + 12))) e

  word_is : (t : Text) → le_at wd w (at + 12) ≡ number ts t → get_or ts (number ts t) [] ≡ t → word_at wd ts w (at + 12) ≡ t
  unfolding word_at
  word_is t e h = ap (λ (k : ℕ). get_or ts k []) e ∙ h

  -- theorem: its text
  pub action_means : (x : Action) → ActionWithin false wd ts x → get_or w (at + 11) 0 ≡ action_code x → le_at wd w (at + 12) ≡ action_text ts x → action_at wd ts w at ≡ shown_action x
  unfolding action_by pick arrow_text side_text shown_action action_text
  action_means no_action h c n = by_code 0 c
  action_means (user t) h c n = by_code 1 c ∙ ap (λ (u : Text). ascii " => " ++ u) (word_is t n (text_number ts t h.0))
  action_means (fallible t) h c n = by_code 2 c ∙ ap (λ (u : Text). ascii " =>? " ++ u) (word_is t n (text_number ts t h.0))
  action_means lookahead_action h c n = by_code 3 c
  action_means lookbehind_action h c n = by_code 4 c

  small : (x : Action) → ActionWithin false wd ts x → 0 < 256 ^ wd → action_text ts x < 256 ^ wd
  unfolding action_text
  small no_action h z = z
  small (user t) h z = h.1
  small (fallible t) h z = h.1
  small lookahead_action h z = z
  small lookbehind_action h z = z

pub record AlternativeReads (wd : ℕ) (s w : List ℕ) (m : Map) (at e : ℕ) (a : Alternative) : Type 0 where
  pub room : at + 14 + wd ≤ e
  pub inside : e ≤ length w
  pub many : le_at 2 w (at + 12 + wd) ≡ count a.symbols
  pub symbols : SymsStand s w m wd false 64 (symbols_from wd w at) e a.symbols
  pub action : action_at wd (texts s w m) w at ≡ shown_action a.action

module _ (wd : ℕ) (s w : List ℕ) (m : Map) (at e : ℕ) (a : Alternative) where
  abbrev ts : List Text
  ts = texts s w m

  reads : AlternativeWithin false wd ts a → Lies w at (alternative_bytes wd ts a) e → AlternativeReads wd s w m at e a
  unfolding alternative_bytes alternative_node node_bytes
  reads h l =
      let nothing : List ℕ = [] in
      let AT = alternative_read false wd ts w at e a nothing h (subst (λ (b : List ℕ). Lies w at b e) (sym (append-nil (alternative_bytes wd ts a))) l) in
      let R : List ℕ = le wd (action_text ts a.action) ++ le 2 (count a.symbols) in
      let N : List ℕ = 18 ∷ (span_bytes a.span ++ (length a.attributes ∷ length (conditions a.condition) ∷ action_code a.action ∷ R)) in
      let M : List ℕ = bytes_of_each (attribute_bytes wd ts) a.attributes ++ (bytes_of_each (condition_bytes wd ts) (conditions a.condition) ++ syms_bytes wd ts a.symbols) in
      let s1 = lies_split w at e N M l in
      let b = byte_read w _ at (at + 1) refl s1.0 in
      let d = span_read w _ (at + 1) (at + 9) (omega arith) h.span b.1 in
      let f = byte_read w _ (at + 9) (at + 10) (omega arith) d.1 in
      let i = byte_read w _ (at + 10) (at + 11) (omega arith) f.1 in
      let j = byte_read w _ (at + 11) (at + 12) (omega arith) i.1 in
      let k = le-read_then w _ (at + 12) (at + 12 + wd) wd refl (small wd ts w at a.action h.action (power-some wd)) j.1 in
      let n : at + length N ≡ at + 14 + wd = omega (arith, j.1.end, length-append (le wd (action_text ts a.action)) (le 2 (count a.symbols)), length-le wd (action_text ts a.action), length-le 2 (count a.symbols)) in
      record {
        room = omega (arith, n, s1.1.end);
        inside = lies_inside w at e (alternative_bytes wd ts a) (omega arith) l;
        many = AT.symbols;
        symbols = record { within = h.symbols; lies = lies_to (sym l.end) AT.place };
        action = action_means wd ts w at a.action h.action j.0 k.0;
      }

  -- theorem: what is read of it
  pub alternative_reads : OneStands (AlternativeGood wd) (alternative_bytes wd) s w m at e a → AlternativeReads wd s w m at e a
  unfolding AlternativeGood
  alternative_reads st = reads st.within st.lies
