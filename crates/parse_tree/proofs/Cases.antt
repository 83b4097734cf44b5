-- A tree with every command, computed to its tape and back.
use mathlib.Core.Path.{◌≡◌, refl}
use mathlib.Core.Bool.{true, false}
use mathlib.Core.List.{List, [], ◌∷◌}
use mathlib.Core.Option.{none, some}
use Prim.Native.Nat.{ℕ}
use lib.ListN.{length}
use Rattle.octets.specs.Working.Choice.{pick}
use Rattle.octets.specs.Plain.Numbers.{le, le_at}
use Rattle.octets.specs.Plain.Runs.{part, same_as}
use Rattle.parse_tree.specs.Plain.Tree.{Syms, Alternative, Item, plus, ambiguous, bare, quoted, regex, nonterminal, lookahead, lookbehind, error, repeat, choose, name, macro, group, leaf, around, over, nil, cons, user, item, terminal, extern, match, count, syms_of}
use Rattle.parse_tree.specs.Plain.Texts.{every, starts_name, in_name, is_identifier, is_name, is_literal, is_ascii, has, number, with_new}
use Rattle.parse_tree.specs.Working.Nodes.{span_bytes, leaf_code, leaf_operand, symbol_bytes, node_bytes, size_of, if_whole, span_in, named_leaf, word_leaf, symbol_node_at, text_node, nonterminal_node_at, terminal_node_at, argument_node_at, alternative_node_at, attribute_node_at, condition_node_at, node_by, node_at}
use Rattle.parse_tree.specs.Working.Places.{class_of, table, allowed_at}
use Rattle.parse_tree.specs.Working.Questions.{leaf_defined, symbol_defined, alternative_defined, attribute_defined, defined, leaf_suits, symbol_suits, suits}
use Rattle.parse_tree.specs.Plain.Reading.{got, then, times}
use Rattle.parse_tree.specs.Working.Expect.{expect_item, expect_argument, expect_alternative, expect_attribute, expect_condition, expect_symbol}
use Rattle.parse_tree.specs.Working.Operands.{op_from, inside_of, leaf_of, around_of, over_of, action_from, attribute_of, condition_of, alternative_of, nonterminal_of, terminal_of}
use Rattle.parse_tree.specs.Working.Decode.{ask_of, ask, read_sym, read_argument, read_attribute, read_condition, alternative_parts, read_alternative, nonterminal_parts, read_item, read_items, read_atoms, decode_by, decode}
use Rattle.parse_tree.specs.Working.Encode.{atom_bytes, leaf_node, around_node, over_node, action_text, alternative_node, attribute_node, condition_node, nonterminal_node, sym_bytes, argument_bytes, attribute_bytes, condition_bytes, alternative_bytes, item_bytes, stage_bytes, encode}
use Rattle.parse_tree.specs.Plain.WriteTape.{bytes_of_each}
use Rattle.parse_tree.specs.Plain.References.{texts_of_each, leaf_texts, around_texts, over_texts, sym_texts, action_texts, attribute_texts, condition_texts, alternative_texts, item_texts, stage_of}
use Rattle.parse_tree.specs.declared.syntax.Span.{Span}

abbrev at : ℕ → ℕ → Span
at a b = record { 0 = a; 1 = b }

-- E, n, x, `a`
abbrev symbols : Syms
symbols =
    cons (leaf (at 1 2) (ambiguous (69 ∷ [])))
    (cons (around (at 3 4) (repeat plus) (leaf (at 3 4) (bare (110 ∷ []))))
    (cons (around (at 3 70000) choose (around (at 1 1) (name true (120 ∷ [])) (leaf (at 1 2) (quoted (43 ∷ [])))))
    (cons (over (at 1 2) (macro (77 ∷ [])) (cons (leaf (at 5 6) (regex (46 ∷ []))) (cons (leaf (at 0 0) lookahead) nil)))
    (cons (over (at 1 2) group (cons (leaf (at 5 6) (nonterminal (69 ∷ []))) (cons (leaf (at 0 0) lookbehind) (cons (leaf (at 9 9) error) nil))))
    nil))))

abbrev alternative : Alternative
alternative = record {
  span = at 7 8;
  attributes = record { id = 112 ∷ []; argument = some (108 ∷ [], 49 ∷ []) } ∷ record { id = 113 ∷ []; argument = none } ∷ [];
  condition = some (record { span = at 0 0; lhs = 69 ∷ []; equal = false; rhs = 43 ∷ [] });
  action = user (123 ∷ 125 ∷ []);
  symbols = symbols;
}

abbrev items : List Item
items =
    item (record { span = at 0 9; name = 69 ∷ []; inline = true; public = true; args = (65 ∷ []) ∷ []; alternatives = alternative ∷ alternative ∷ [] })
    ∷ terminal (at 1 1) extern (110 ∷ [])
    ∷ terminal (at 1 2) match (98 ∷ [])
    ∷ []

every-command : decode (encode 2 [] items) ≡ got (stage_of [] items) (length (encode 2 [] items))
unfolding pick le le_at part same_as count syms_of every starts_name in_name is_identifier is_name is_literal is_ascii has number with_new span_bytes leaf_code leaf_operand symbol_bytes node_bytes size_of if_whole span_in named_leaf word_leaf symbol_node_at text_node nonterminal_node_at terminal_node_at argument_node_at alternative_node_at attribute_node_at condition_node_at node_by node_at class_of table allowed_at leaf_defined symbol_defined alternative_defined attribute_defined defined leaf_suits symbol_suits suits then times expect_item expect_argument expect_alternative expect_attribute expect_condition expect_symbol op_from inside_of leaf_of around_of over_of action_from attribute_of condition_of alternative_of nonterminal_of terminal_of ask_of ask read_sym read_argument read_attribute read_condition alternative_parts read_alternative nonterminal_parts read_item read_items read_atoms decode_by decode bytes_of_each atom_bytes leaf_node around_node over_node action_text alternative_node attribute_node condition_node nonterminal_node sym_bytes argument_bytes attribute_bytes condition_bytes alternative_bytes item_bytes stage_bytes texts_of_each leaf_texts around_texts over_texts sym_texts action_texts attribute_texts condition_texts alternative_texts item_texts stage_of encode
every-command = refl
