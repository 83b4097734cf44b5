-- What is read in the stage stands in work. Assumes nothing.
use mathlib.Core.Path.{◌≡◌, refl, sym, ap, ◌∙◌}
use mathlib.Core.Bool.{Bool, true, false}
use mathlib.Core.List.{List, [], ◌∷◌, ◌++◌, append_assoc}
use Prim.Native.Nat.{ℕ, zero, suc, ◌+◌, ◌-◌, ◌<◌, ◌≤◌}
use native.Mathlib.Omega.{arith}
use borrow.Author.Tests.{ltb-true, ltb-false}
use lib.Dec.{ltb}
use lib.ListN.{length, get_or, drop, length-append}
use lib.Seq.{drop-drop, drop-append-le, get_or-take, get_or-drop}
use Rattle.octets.specs.Plain.Numbers.{Bytes}
use Rattle.octets.specs.Plain.Runs.{part, Lies}
use Rattle.octets.proofs.PartLaws.{part_length}
use Rattle.octets.proofs.LiesLaws.{lies_inside, part_lies}
use Rattle.parse_tree.specs.Plain.Tree.{Text, Sym}
use Rattle.parse_tree.specs.Plain.Reading.{got}
use Rattle.parse_tree.specs.Working.Decode.{read_sym}
use Rattle.parse_tree.specs.Working.Nodes.{node_bytes, size_of}
use Rattle.parse_tree.specs.Working.Encode.{sym_bytes, syms_bytes}
use Rattle.parse_tree.proofs.ItemFound.{sym_finds}
use Rattle.laws.specs.Flat.{sym_node, children}
use Rattle.laws.proofs.Flat.{sym_bytes_lem, node_size}
use Rattle.texts.specs.Table.{texts}
use Rattle.grades.proofs.WordedLaws.{table-worded}
use Rattle.display.specs.Standing.{Readable, SymStands, SomeSym}
use Rattle.expander.specs.declared.Ground.{Ground}
use Rattle.expander.specs.Ground.{Grounded, KeyAt, symbol_in, stage_in, size_in}

-- ---- parts

-- the elements past the end are 0
get_d_past : (s : List ℕ) (i : ℕ) → length s ≤ i → get_or s i 0 ≡ 0
get_d_past [] i h = refl
get_d_past (x ∷ xs) zero h = absurd (omega arith)
get_d_past (x ∷ xs) (suc i) h = get_d_past xs i (omega arith)

-- a part of bytes is bytes
pub bytes_part : (w : List ℕ) (a e : ℕ) → Bytes w → e ≤ length w → Bytes (part a e w)
unfolding part
bytes_part w a e b k i = go (ltb i (e - a)) refl
  where
    go : (t : Bool) → ltb i (e - a) ≡ t → get_or (part a e w) i 0 < 256
    go true q = rw (get_or-take (e - a) (drop a w) i 0 (ltb-true i (e - a) q) ∙ get_or-drop a w i 0) (b (a + i))
    go false q = rw (get_d_past (part a e w) i (omega (arith, ltb-false i (e - a) q, part_length a e w k))) (omega arith)

-- what lies in a part lies in the whole
pub lies_whole : (w : List ℕ) (a e : ℕ) → a ≤ e → e ≤ length w → (p : ℕ) (xs : List ℕ) (q : ℕ) → Lies (part a e w) p xs q → Lies w (a + p) xs (a + q)
lies_whole w a e h k p [] q l = let z : a + q ≡ a + p = omega (arith, l.end) in record { is = ap (λ (n : ℕ). drop n w) (sym z); end = omega (arith, l.end) }
lies_whole w a e h k p (x ∷ xs) q l =
    let i = lies_inside (part a e w) p q (x ∷ xs) (omega arith) l in
    let d = (part_lies w a e h k).is in
    let from : (n : ℕ) → n ≤ length (part a e w) → drop (a + n) w ≡ drop n (part a e w) ++ drop e w =
    λ n j. sym (drop-drop n a w) ∙ ap (drop n) d ∙ drop-append-le n (part a e w) (drop e w) j in
    record {
      is =
          from p (omega (arith, l.end)) ∙ ap (λ (r : List ℕ). r ++ drop e w) l.is ∙ append_assoc (x ∷ xs) (drop q (part a e w)) (drop e w)
          ∙ ap (λ (r : List ℕ). (x ∷ xs) ++ r) (sym (from q i));
      end = omega (arith, l.end);
    }

-- ---- the ground
module _ (s w : List ℕ) (g : Ground) where
  -- the texts can be read
  pub grounded_readable : Grounded s w g → Readable s w g.m g.width.bytes
  grounded_readable G = record { worded = table-worded s w g.m G.table; narrow = G.narrow; wide = G.wide }

  pub stage_length : Grounded s w g → length (stage_in w g) ≡ size_in g
  unfolding stage_in size_in
  stage_length G = part_length g.from g.end w G.inside

-- a symbol has nine bytes
symbol_long : (wd : ℕ) (ts : List Text) (x : Sym) → 9 ≤ length (sym_bytes wd ts x)
unfolding size_of
symbol_long wd ts x = omega (arith, node_size wd ts x, ap length (sym_bytes_lem wd ts x), length-append (node_bytes wd (sym_node ts x)) (syms_bytes wd ts (children x)))

module _ (s w : List ℕ) (g : Ground) (b : Bytes w) (G : Grounded s w g) where
  -- theorem: a symbol that was read in the stage stands in work
  pub read_stands : (left p : ℕ) (y : Sym) (e : ℕ) → read_sym false g.width.bytes (stage_in w g) (texts s w g.m) left p ≡ got y e
      → SymStands s w g.m g.width.bytes false left (g.from + p) (g.from + e) y
  unfolding stage_in
  read_stands left p y e r =
      let f = sym_finds false g.width.bytes (stage_in w g) (texts s w g.m) (bytes_part w g.from g.end b G.inside) G.distinct-texts left p y e r in
      record {
        within = f.within;
        lies = lies_whole w g.from g.end G.ordered G.inside p (sym_bytes g.width.bytes (texts s w g.m) y) e f.lies;
      }

  -- and has nine bytes of the stage
  pub read_room : (left p : ℕ) (y : Sym) (e : ℕ) → read_sym false g.width.bytes (stage_in w g) (texts s w g.m) left p ≡ got y e → (p + 9 ≤ e) × (e ≤ size_in g)
  unfolding stage_in
  read_room left p y e r =
      let f = sym_finds false g.width.bytes (stage_in w g) (texts s w g.m) (bytes_part w g.from g.end b G.inside) G.distinct-texts left p y e r in
      let n = symbol_long g.width.bytes (texts s w g.m) y in
      let i = lies_inside (stage_in w g) p e (sym_bytes g.width.bytes (texts s w g.m) y) (omega arith) f.lies in
      (omega (arith, f.lies.end), omega (arith, stage_length s w g G))

  module _ (p : ℕ) (k : KeyAt s w g p) where
    -- theorem: and so one that is expanded
    pub key_stands : SymStands s w g.m g.width.bytes false 64 (g.from + p) (g.from + k.end) (symbol_in s w g p)
    key_stands = read_stands 64 p (symbol_in s w g p) k.end k.read

    pub key_some : SomeSym s w g.m g.width.bytes 64 (g.from + p)
    key_some = record { four = false; end = g.from + k.end; symbol = symbol_in s w g p; stands = key_stands }

    pub key_room : p + 9 ≤ size_in g
    key_room = omega (arith, read_room 64 p (symbol_in s w g p) k.end k.read)
