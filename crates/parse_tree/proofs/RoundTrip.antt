-- Writing and reading are inverse, for `decode` and `decode_any` themselves. Assumes nothing.
use mathlib.Core.Path.{◌≡◌, ◌∙◌}
use mathlib.Core.Bool.{Bool, true, false}
use mathlib.Core.List.{List}
use Prim.Native.Nat.{ℕ}
use lib.ListN.{length}
use Rattle.octets.specs.Plain.Numbers.{Bytes}
use Rattle.parse_tree.specs.Plain.Tree.{Text, Item, Stage}
use Rattle.parse_tree.specs.Plain.Reading.{got}
use Rattle.parse_tree.specs.Working.Decode.{decode_by, decode, decode_any}
use Rattle.parse_tree.specs.Plain.References.{stage_of}
use Rattle.parse_tree.specs.Working.Encode.{encode}
use Rattle.parse_tree.specs.Working.Within.{StageWithin}
-- at most 256 ^ w atoms have numbers of w bytes: a text's number is below theirs
pub use Rattle.parse_tree.proofs.TextLaws.{number-below}
use Rattle.parse_tree.proofs.ReadBack.{read_back}
use Rattle.parse_tree.proofs.Written.{written}
use Rattle.parse_tree.proofs.NothingNew.{nothing-new}

-- a tree within its limits is read back from its tape
pub decode-encode : (ts : List Text) (items : List Item) → StageWithin true 2 (stage_of ts items) → decode (encode 2 ts items) ≡ got (stage_of ts items) (length (encode 2 ts items))
unfolding decode encode
decode-encode ts items h = read_back true 2 (stage_of ts items) h

pub decode_any-encode : (ts : List Text) (items : List Item) → StageWithin false 2 (stage_of ts items) → decode_any (encode 2 ts items) ≡ got (stage_of ts items) (length (encode 2 ts items))
unfolding decode_any encode
decode_any-encode ts items h = read_back false 2 (stage_of ts items) h

-- a tape that is read is the tape of its tree
encode-by : (four : Bool) (s : List ℕ) (g : Stage) (e : ℕ) → Bytes s → decode_by four 2 s ≡ got g e → encode 2 g.atoms g.items ≡ s
encode-by four s g e b p =
    let h = written four 2 s g e b p in
    nothing-new four 2 g h.within ∙ h.bytes

pub encode-decode : (s : List ℕ) (g : Stage) (e : ℕ) → Bytes s → decode s ≡ got g e → encode 2 g.atoms g.items ≡ s
unfolding decode
encode-decode s g e b p = encode-by true s g e b p

pub encode-decode_any : (s : List ℕ) (g : Stage) (e : ℕ) → Bytes s → decode_any s ≡ got g e → encode 2 g.atoms g.items ≡ s
unfolding decode_any
encode-decode_any s g e b p = encode-by false s g e b p
