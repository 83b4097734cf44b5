-- The ways out of put_print and put_new. Assumes nothing.
use mathlib.Core.Path.{◌≡◌, refl, sym, ap, ◌∙◌, subst}
use mathlib.Core.Bool.{false}
use mathlib.Core.List.{List}
use Prim.Native.Nat.{ℕ, ◌+◌, ◌-◌, ◌*◌, ◌/◌, ◌%◌, ◌<◌, ◌≤◌}
use native.Mathlib.Omega.{arith}
use mir.Syntax.{w8}
use mir.Val as Bound
use borrow.Author.Rules.{rules}
use lib.ListN.{length, get_or}
use Rattle.octets.specs.Working.Stores.{store}
use Rattle.parse_tree.specs.Plain.Tree.{Text}
use Rattle.parse_tree.specs.Working.Encode.{atom_bytes}
use Rattle.texts.specs.Fields.{mark_at, hash_at}
use Rattle.texts.specs.Hash.{hash_of}
use Rattle.expander.specs.declared.Ground.{Ground}
use Rattle.expander.specs.declared.entries.NewText.{NewText}
use Rattle.expander.specs.Ground.{top_of, key_at, symbol_in, printed_at, KeyAt}
use Rattle.expander.specs.Entries.{entry_code}
use Rattle.expander.specs.Names.{described_by}
use Rattle.expander.proofs.NamedTexts.{described_even}
use Rattle.expander.proofs.GroundLaws.{keys_slots, slots_top}
use Rattle.expander.proofs.StageReads.{grounded_readable, key_stands, read_room}
use Rattle.settling.specs.declared.copied.Print.{Print}
use Rattle.settling.specs.Copied.{SaidIn, Copying}
use Rattle.settling.specs.Atom.{AtomReady}
use Rattle.appending.specs.Built.{built_text}
use Rattle.settling.specs.One.{TextPut, Puttable}
use Rattle.settling.proofs.OneCode.{print_even, print_half, cell_room, built_below, described_built}

module _ (s w : List ℕ) (g : Ground) (first : ℕ) (y : NewText) (len end : ℕ) (h : Puttable s w g first (entry_code y) len end) where
  abbrev x : Print
  x = record { g = g; first = first; lim = end }

  abbrev v : ℕ
  v = entry_code y

  put_copying : Copying s w x (end - (len + 3))
  put_copying =
      let G = h.ground in
      record {
        ground = h.ground;
        printable = record {
          readable = grounded_readable s w g G;
          above = h.above;
          records = omega (arith, h.top, G.records, keys_slots s w g G, slots_top s w g G);
          inside = h.inside;
          stop = omega arith;
        };
        items = omega (arith, h.items);
        top = omega (arith, h.top);
        behind = h.behind;
      }

  module _ (j : ℕ) (i : y ≡ NewText.Print j) (b : (k : ℕ) → Bound.Fits w8 (get_or w k 0)) (p : ℕ) (m : p ≡ mark_at w g.keys j) where
    even : v % 2 ≡ 0
    even = print_even y j i

    half : v / 2 ≡ j
    half = print_half y j i

    key_is : key_at w g (v / 2) ≡ p
    unfolding key_at
    key_is = ap (mark_at w g.keys) half ∙ sym m

    put_key : KeyAt s w g p
    put_key = subst (KeyAt s w g) key_is (h.entry.key even)

    put_text : described_by s w g v ≡ printed_at s w g p
    put_text = described_even s w g v even ∙ ap (printed_at s w g) key_is

    pub put_ready : AtomReady s w (record { g = g; first = first; lim = end }) p len
    put_ready = record {
      copying = put_copying;
      symbol = record {
        four = false;
        end = put_key.end;
        symbol = symbol_in s w g p;
        levels = omega arith;
        stands = key_stands s w g (λ k. (b k).fits) h.ground p put_key;
        inside = (read_room s w g (λ k. (b k).fits) h.ground 64 p (symbol_in s w g p) put_key.end put_key.read).1;
        said = subst (SaidIn s w x) key_is (h.said even);
      };
      is = h.is ∙ ap length put_text;
      short = h.short;
      room = omega (arith, h.top);
    }

    pub print-put : (r : ℕ) (w1 : List ℕ) → r ≡ hash_at w g.keys j → w1 ≡ store w (end - (len + 3)) (atom_bytes 2 (printed_at s w g p)) → TextPut w (described_by s w g v) end r w1
    print-put r w1 f a = record {
      bytes = a ∙ ap (λ (t : Text). store w (end - (len + 3)) (atom_bytes 2 t)) (sym put_text) ∙ ap (λ (k : ℕ). store w (end - (k + 3)) (atom_bytes 2 (described_by s w g v))) h.is;
      hash = f ∙ ap (hash_at w g.keys) (sym half) ∙ h.entry.hash even ∙ ap (λ (t : Text). hash_of t) (sym (described_even s w g v even));
    }

  -- ---- put_new
  pub put_high : 34 ≤ end
  unfolding top_of
  put_high =
      let G = h.ground in
      omega (arith, h.top, G.records, G.fits, G.few, G.filled, G.some, G.narrower)

  pub put_inside : end ≤ length w
  put_inside = h.inside

  module _ (k : ℕ) (i : y ≡ NewText.BuiltIn k) where
    pub put_below : k < 9
    put_below = built_below y s w g k i h.entry

    pub built_put : (r : ℕ) (w1 : List ℕ) → TextPut w (built_text k) end r w1 → TextPut w (described_by s w g v) end r w1
    built_put r w1 t = rw (described_built y s w g k i) t

  module _ (j : ℕ) (i : y ≡ NewText.Print j) where
    pub print_puttable : Puttable s w g first (2 * j) len end
    print_puttable = subst (λ (z : NewText). Puttable s w g first (entry_code z) len end) i h

    pub print_put : (r : ℕ) (w1 : List ℕ) → TextPut w (described_by s w g (2 * j)) end r w1 → TextPut w (described_by s w g v) end r w1
    print_put r w1 t = subst (λ (z : NewText). TextPut w (described_by s w g (entry_code z)) end r w1) (sym i) t

-- put_print: the print of record j
module _ (s w : List ℕ) (x : Print) (j len : ℕ) (h : Puttable s w x.g x.first (2 * j) len x.lim) where
  abbrev g : Ground
  g = x.g

  pub put_record : g.keys + 24 * j + 24 ≤ length w
  put_record = cell_room (NewText.Print j) s w g j refl h.ground h.entry

  module _ (b : (k : ℕ) → Bound.Fits w8 (get_or w k 0)) (p : ℕ) (m : p ≡ mark_at w g.keys j) where
    pub record_ready : AtomReady s w x p len
    record_ready = put_ready s w g x.first (NewText.Print j) len x.lim h j refl b p m

    pub record_put : (r : ℕ) (w1 : List ℕ) → r ≡ hash_at w g.keys j → w1 ≡ store w (x.lim - (len + 3)) (atom_bytes 2 (printed_at s w g p)) → TextPut w (described_by s w g (2 * j)) x.lim r w1
    record_put r w1 f a = print-put s w g x.first (NewText.Print j) len x.lim h j refl b p m r w1 f a

pub ruleset printing = (rules, put_record, record_ready, record_put)

pub ruleset putting = (rules, put_below, put_high, put_inside, built_put, print_puttable, print_put)
