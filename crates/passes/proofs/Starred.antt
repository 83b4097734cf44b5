-- The starred cases of document 01, and what the definitions must not get wrong beside them: one table and a theorem over its rows, all answers
-- and trees compared as words and bytes. `starred` computes; nothing is assumed.
use mathlib.Core.Path.{◌≡◌, refl}
use mathlib.Core.List.{List, [], ◌∷◌, ◌++◌, map}
use Prim.Native.Nat.{ℕ, ◌+◌, ◌*◌}
use lib.ListN.{length, drop}
use Rattle.octets.specs.Plain.Numbers.{le, le_at}
use Rattle.octets.specs.Plain.Runs.{part, same_as}
use Rattle.parse_tree.specs.Plain.Tree.{Text, Op, Item, lookahead, repeat, macro, leaf, around, over, count, syms_of}
use Rattle.parse_tree.specs.Plain.Texts.{every, starts_name, in_name, is_identifier, is_name, is_literal, is_ascii, has, number, distinct, with_new}
use Rattle.parse_tree.specs.Plain.Display.{escaped, shown_leaf, shown_before, shown_behind, opening, shown, print}
use Rattle.parse_tree.specs.Plain.Reading.{then, times}
use Rattle.parse_tree.specs.Plain.References.{texts_of_each, leaf_texts, around_texts, over_texts, sym_texts, action_texts, attribute_texts, condition_texts, alternative_texts, item_texts, stage_of}
use Rattle.parse_tree.specs.Plain.WriteTape.{bytes_of_each, coded, atom_tape, leaf_tape, around_tape, over_tape, sym_tape, action_tape, attribute_tape, condition_tape, alternative_tape, item_tape, tape_of}
use Rattle.parse_tree.specs.Plain.ReadTape.{asked, command_at, symbol_at, argument_at, attribute_at, condition_at, alternative_at, item_at, items_at, atoms_at, read_tape}
use Rattle.parse_tree.specs.declared.syntax.Span.{Span}
use Rattle.passes.specs.Resolve.{check_globals, validate_symbol, validate_alternatives, validate_items, resolve}
use Rattle.passes.specs.Levels.{levels_of, of_level, groups_of, occurs, replace_occurrences, substituted, with_fall_through, level_items, levelled, check_levels, levels}
use Rattle.passes.specs.Macros.{push, replace_symbol, replace_alternatives, replace_items, macro_expand_symbol, expand_alternatives, expand_symbol, drain, vec_none, vec_one, pushed, v_name, e_name}
use Rattle.passes.specs.Sizes.{stage_fits}
use Rattle.passes.specs.Stages.{resolve_stage, level_stage, rounds, macro_stages, all_stages}
use Rattle.passes.specs.Calls.{sizes, validate_call, resolve_call, levels_call, macros_call, answer_words, written}
use Rattle.passes.specs.Calls as calls
use Rattle.passes.proofs.Asked.{Call, Row, levelling, wholly, old, answered, expected}
use Rattle.passes.proofs.Build.{at, name, to, quote, fall, list, level, side, alternative, nt}
use Rattle.passes.proofs.StarredTrees.{e, e1, m, left_text, right_text, none_text, all_text, first, leveled, plus, lowest, levels2, macro_m, macro_m', declared, extern_n, listing, new, n_star, n_plus, listed, e2, plain_s, looks, at_l, at_r, looked, swapping, key_m, swapped, single, unlevelled, star_n, deep, deep_star, deep_plus, deepened}

-- ---- rows: a tree's items put to a call with so many bytes of output and just enough work
abbrev tape_for : List Item → List ℕ
tape_for items = tape_of 2 (stage_of [] items)

-- the answer is a yes, and these items with these new atoms behind the tape's own
abbrev gives_within : ℕ → Call → ℕ → List Item → List Text → List Item → Row
gives_within output call limit items new made =
    let tape : List ℕ = tape_for items in
    let tree : List ℕ = tape_of 2 (record { atoms = (stage_of [] items).atoms ++ new; items = made }) in
    record {
      call = call;
      tape = tape;
      limit = limit;
      output = output;
      work = 8 * (length tape + output);
      words = 1 ∷ length tree ∷ 0 ∷ 0 ∷ 0 ∷ [];
      bytes = tree ++ drop (length tree) old;
      too_long = [];
    }

-- the answer is a refusal, and output is as it was
abbrev refuses_within : ℕ → Call → ℕ → List Item → ℕ → Span → Row
refuses_within output call limit items number s =
    let tape : List ℕ = tape_for items in
    record {
      call = call;
      tape = tape;
      limit = limit;
      output = output;
      work = 8 * (length tape + output);
      words = 0 ∷ number ∷ s.0 ∷ s.1 ∷ 0 ∷ [];
      bytes = old;
      too_long = [];
    }

abbrev gives : Call → ℕ → List Item → List Text → List Item → Row
gives = gives_within 5000

abbrev refuses : Call → ℕ → List Item → ℕ → Span → Row
refuses = refuses_within 5000

-- `L = error+;` in bytes, with just the output that its appending stage needs
abbrev error_plus : Row
error_plus =
    record {
      call = wholly;
      tape = 1 ∷ 1 ∷ 0 ∷ 76 ∷ 16 ∷ 0 ∷ 0 ∷ 0 ∷ 0 ∷ 10 ∷ 0 ∷ 0 ∷ 0 ∷ 0 ∷ 0 ∷ 0 ∷ 0 ∷ 1 ∷ 0 ∷ 18 ∷ 4 ∷ 0 ∷ 0 ∷ 0 ∷ 10 ∷ 0 ∷ 0 ∷ 0 ∷ 0 ∷ 0 ∷ 0 ∷ 0 ∷ 0 ∷ 1 ∷ 0 ∷ 38 ∷ 4 ∷ 0 ∷ 0 ∷ 0 ∷ 10 ∷ 0 ∷ 0 ∷ 0 ∷ 1 ∷ 44 ∷ 4 ∷ 0 ∷ 0 ∷ 0 ∷ 9 ∷ 0 ∷ 0 ∷ 0 ∷ [];
      limit = 1;
      output = 215;
      work = 2152;
      words = 1 ∷ 215 ∷ 0 ∷ 0 ∷ 0 ∷ [];
      bytes = 1 ∷ 1 ∷ 0 ∷ 76 ∷ 1 ∷ 6 ∷ 0 ∷ 101 ∷ 114 ∷ 114 ∷ 111 ∷ 114 ∷ 43 ∷ 1 ∷ 15 ∷ 0 ∷ 97 ∷ 108 ∷ 108 ∷ 111 ∷ 99 ∷ 58 ∷ 58 ∷ 118 ∷ 101 ∷ 99 ∷ 33 ∷ 91 ∷ 60 ∷ 62 ∷ 93 ∷ 1 ∷ 31 ∷ 0 ∷ 123 ∷ 32 ∷ 108 ∷ 101 ∷ 116 ∷ 32 ∷ 109 ∷ 117 ∷ 116 ∷ 32 ∷ 118 ∷ 32 ∷ 61 ∷ 32 ∷ 118 ∷ 59 ∷ 32 ∷ 118 ∷ 46 ∷ 112 ∷ 117 ∷ 115 ∷ 104 ∷ 40 ∷ 101 ∷ 41 ∷ 59 ∷ 32 ∷ 118 ∷ 32 ∷ 125 ∷ 1 ∷ 1 ∷ 0 ∷ 118 ∷ 1 ∷ 1 ∷ 0 ∷ 101 ∷ 16 ∷ 0 ∷ 0 ∷ 0 ∷ 0 ∷ 10 ∷ 0 ∷ 0 ∷ 0 ∷ 0 ∷ 0 ∷ 0 ∷ 0 ∷ 1 ∷ 0 ∷ 18 ∷ 4 ∷ 0 ∷ 0 ∷ 0 ∷ 10 ∷ 0 ∷ 0 ∷ 0 ∷ 0 ∷ 0 ∷ 0 ∷ 0 ∷ 0 ∷ 1 ∷ 0 ∷ 36 ∷ 4 ∷ 0 ∷ 0 ∷ 0 ∷ 10 ∷ 0 ∷ 0 ∷ 0 ∷ 1 ∷ 0 ∷ 16 ∷ 4 ∷ 0 ∷ 0 ∷ 0 ∷ 10 ∷ 0 ∷ 0 ∷ 0 ∷ 1 ∷ 0 ∷ 0 ∷ 0 ∷ 2 ∷ 0 ∷ 18 ∷ 4 ∷ 0 ∷ 0 ∷ 0 ∷ 10 ∷ 0 ∷ 0 ∷ 0 ∷ 0 ∷ 0 ∷ 1 ∷ 2 ∷ 0 ∷ 1 ∷ 0 ∷ 44 ∷ 4 ∷ 0 ∷ 0 ∷ 0 ∷ 9 ∷ 0 ∷ 0 ∷ 0 ∷ 18 ∷ 4 ∷ 0 ∷ 0 ∷ 0 ∷ 10 ∷ 0 ∷ 0 ∷ 0 ∷ 0 ∷ 0 ∷ 1 ∷ 3 ∷ 0 ∷ 2 ∷ 0 ∷ 40 ∷ 4 ∷ 0 ∷ 0 ∷ 0 ∷ 10 ∷ 0 ∷ 0 ∷ 0 ∷ 0 ∷ 4 ∷ 0 ∷ 36 ∷ 4 ∷ 0 ∷ 0 ∷ 0 ∷ 10 ∷ 0 ∷ 0 ∷ 0 ∷ 1 ∷ 0 ∷ 40 ∷ 4 ∷ 0 ∷ 0 ∷ 0 ∷ 10 ∷ 0 ∷ 0 ∷ 0 ∷ 0 ∷ 5 ∷ 0 ∷ 44 ∷ 4 ∷ 0 ∷ 0 ∷ 0 ∷ 9 ∷ 0 ∷ 0 ∷ 0 ∷ [];
      too_long = [];
    }

abbrev rows : List Row
rows =
    -- left, right, none, all
    gives levelling 0 (plus left_text) (e1 ∷ []) (levels2 (to e ∷ quote 43 ∷ to e1 ∷ []))
    ∷ gives levelling 0 (plus right_text) (e1 ∷ []) (levels2 (to e1 ∷ quote 43 ∷ to e ∷ []))
    ∷ gives levelling 0 (plus none_text) (e1 ∷ []) (levels2 (to e1 ∷ quote 43 ∷ to e1 ∷ []))
    ∷ gives levelling 0 (plus all_text) (e1 ∷ []) (levels2 (to e ∷ quote 43 ∷ to e ∷ []))
    -- left on level 1: 16
    ∷ refuses levelling 0 (nt (at 0 9) e [] (alternative (at 1 2) (level (49 ∷ []) ∷ side left_text ∷ []) (quote 110 ∷ []) ∷ []) ∷ []) 16 (at 1 2)
    -- right on `E "?" E ":" E`
    ∷ gives levelling 0 (leveled (side right_text ∷ []) (name e ∷ quote 63 ∷ name e ∷ quote 58 ∷ name e ∷ [])) (e1 ∷ []) (levels2 (to e1 ∷ quote 63 ∷ to e1 ∷ quote 58 ∷ to e ∷ []))
    -- left on `M<E> E`
    ∷ gives levelling 0 (leveled (side left_text ∷ []) (over (at 0 0) (macro m) (list (name e ∷ [])) ∷ name e ∷ []) ++ (macro_m ∷ [])) (e1 ∷ []) (levels2 (over (at 0 0) (macro m) (list (to e ∷ [])) ∷ to e1 ∷ []) ++ (macro_m' ∷ []))
    -- the empty tape
    ∷ gives levelling 0 [] [] []
    -- level `+1` is 1, `-1` is 14
    ∷ gives levelling 0 (nt (at 0 9) e [] (alternative (at 1 2) (level (43 ∷ 49 ∷ []) ∷ []) (quote 110 ∷ []) ∷ alternative (at 3 4) (level (50 ∷ []) ∷ []) (name e ∷ []) ∷ []) ∷ []) (e1 ∷ []) (levels2 (to e ∷ []))
    ∷ refuses levelling 0 (single (level (45 ∷ 49 ∷ []))) 14 (at 1 2)
    -- `assoc` all alone on the first alternative: level 0
    ∷ gives levelling 0 (single (side all_text)) [] unlevelled
    -- a declared E1 after E: 5 at the declared one; before E: 5 at E
    ∷ refuses wholly 64 (plus left_text ++ (declared ∷ [])) 5 (at 20 21)
    ∷ refuses wholly 64 (declared ∷ plus left_text) 5 (at 0 9)
    -- `n*` with limit 2 is expanded, with limit 1 it is 18 at the star
    ∷ gives wholly 2 listing (n_star ∷ vec_none ∷ v_name ∷ n_plus ∷ vec_one ∷ pushed ∷ e_name ∷ []) listed
    ∷ refuses wholly 1 listing 18 (at 4 6)
    -- an `assoc` does not survive a new `precedence`
    ∷ gives levelling 0 (nt (at 0 9) e [] (first ∷ alternative (at 3 4) (level (50 ∷ []) ∷ side left_text ∷ []) (name e ∷ name e ∷ []) ∷ alternative (at 5 6) (level (51 ∷ []) ∷ []) (name e ∷ name e ∷ []) ∷ []) ∷ []) (e1 ∷ e2 ∷ [])
    (lowest ∷ nt (at 0 9) e2 [] (alternative (at 3 4) [] (to e2 ∷ to e1 ∷ []) ∷ alternative (at 0 9) [] (fall (at 0 9) e1 ∷ []) ∷ []) ∷ nt (at 0 9) e [] (alternative (at 5 6) [] (to e ∷ to e ∷ []) ∷ alternative (at 0 9) [] (fall (at 0 9) e2 ∷ []) ∷ []) ∷ [])
    -- 4294967295 is read, 4294967296 is 14
    ∷ gives levelling 0 (single (level (52 ∷ 50 ∷ 57 ∷ 52 ∷ 57 ∷ 54 ∷ 55 ∷ 50 ∷ 57 ∷ 53 ∷ []))) [] unlevelled
    ∷ refuses levelling 0 (single (level (52 ∷ 50 ∷ 57 ∷ 52 ∷ 57 ∷ 54 ∷ 55 ∷ 50 ∷ 57 ∷ 54 ∷ []))) 14 (at 1 2)
    -- a macro with two levels: 10 at the macro's span
    ∷ refuses wholly 64 (nt (at 0 9) e ((80 ∷ []) ∷ []) (first ∷ alternative (at 3 4) (level (50 ∷ []) ∷ []) (quote 43 ∷ []) ∷ []) ∷ []) 10 (at 0 9)
    -- the resolved stage must fit the output, though the levelled tree is shorter: 79 bytes, not 78
    ∷ gives_within 79 levelling 0 (single (level (49 ∷ []))) [] unlevelled
    ∷ refuses_within 78 levelling 0 (single (level (49 ∷ []))) 21 (at 0 0)
    -- 18 is at the last symbol really pushed
    ∷ refuses wholly 0 (plain_s (leaf (at 5 6) lookahead ∷ star_n ∷ leaf (at 9 10) lookahead ∷ []) ∷ extern_n ∷ []) 18 (at 7 8)
    -- `X*` with X 63 deep: `v:X+` is 65 deep. The output holds the tape and not this stage: 20 before 21
    ∷ refuses_within (length (tape_for deep_star)) wholly 64 deep_star 20 (at 0 0)
    -- `X+` with X 63 deep is well: 1,470 bytes
    ∷ gives wholly 3 (plain_s (around (at 7 8) (repeat Op.plus) (deep 62) ∷ []) ∷ extern_n ∷ []) (deep_plus ∷ vec_one ∷ pushed ∷ v_name ∷ e_name ∷ []) deepened
    -- the pile is last in, first out
    ∷ gives wholly 2 looks (at_l ∷ at_r ∷ []) looked
    -- arguments are put in all together: Q, put in for P, is not caught by the argument Q
    ∷ gives wholly 2 swapping (key_m ∷ []) swapped
    -- `+` holds the nonterminal of its own name
    ∷ error_plus
    ∷ []

starred : map answered rows ≡ map expected rows
unfolding le le_at part same_as count syms_of every starts_name in_name is_identifier is_name is_literal is_ascii has number distinct with_new then times texts_of_each leaf_texts around_texts over_texts sym_texts action_texts attribute_texts condition_texts alternative_texts item_texts stage_of bytes_of_each coded atom_tape leaf_tape around_tape over_tape sym_tape action_tape attribute_tape condition_tape alternative_tape item_tape tape_of asked command_at symbol_at argument_at attribute_at condition_at alternative_at item_at items_at atoms_at read_tape check_globals validate_symbol validate_alternatives validate_items resolve levels_of of_level groups_of occurs replace_occurrences substituted with_fall_through level_items levelled check_levels levels stage_fits sizes validate_call resolve_call resolve_stage level_stage levels_call macro_stages all_stages rounds calls.whole push replace_symbol replace_alternatives replace_items macro_expand_symbol expand_alternatives expand_symbol drain escaped shown_leaf shown_before shown_behind opening shown print macros_call answer_words written
starred = refl
