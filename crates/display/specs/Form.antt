-- Hash, power and length of printed forms of symbols that stand in work: the form of a text, and forms with a text behind.
-- s is the tape, w is work, wd the width of an atom's number in bytes. Assumes nothing: these are definitions, and one law, which the field `short` needs.
use Rattle.std.specs.Prelude.{◌≡◌, List, [], ◌∷◌, ℕ, ◌+◌, ◌*◌, ◌%◌, ◌≤◌, ◌<◌, eqb, length}
use Rattle.octets.specs.Working.Choice.{pick}
use Rattle.parse_tree.specs.Plain.Tree.{Text}
use Rattle.texts.specs.declared.Map.{Map}
use Rattle.texts.specs.Hash.{hash_step, hash_of, power}
use Rattle.texts.specs.Forms.{stop}
use Rattle.texts.proofs.FormLaws.{stop-small}
use Rattle.texts.specs.Fields.{mark_at, hash_at}
use Rattle.texts.specs.Texts.{marked_text}
use Rattle.display.specs.declared.form.Form.{Form}

-- a length that stopped is short: each form says so of its own
pub stop_short : (n : ℕ) → stop n ≤ 65536
stop_short n = stop-small 2654435761 n

-- the form of a text
unfoldable pub text_form : Text → Form
text_form t = record { hash = hash_of t; power = power (length t); len = stop (length t); short = stop_short (length t) }

-- r by b modulo 2^32, if k is odd
unfoldable pub odd_times : ℕ → ℕ → ℕ → ℕ
odd_times r b k = pick (eqb (k % 2) 1) (r * b % 4294967296) r

-- the form of a text of n bytes with the hash h
unfoldable pub whole_of : ℕ → ℕ → Form
whole_of h n = record { hash = h; power = power n; len = stop n; short = stop_short n }

-- one text behind another
unfoldable pub join_of : Form → Form → Form
join_of x y = record { hash = (x.hash * y.power + y.hash) % 4294967296; power = x.power * y.power % 4294967296; len = stop (x.len + y.len); short = stop_short (x.len + y.len) }

-- the records have the hashes of their texts
pub record Hashed (s w : List ℕ) (m : Map) : Type 0 where
  pub hashes : (i : ℕ) → i < m.count → hash_at w m.base i ≡ hash_of (marked_text s w (mark_at w m.base i))

-- with a byte more
unfoldable pub more_of : Form → ℕ → Form
more_of f b = record { hash = hash_step f.hash b; power = f.power * 2654435761 % 4294967296; len = stop (f.len + 1); short = stop_short (f.len + 1) }

-- with a text more
unfoldable pub form_from : Form → Text → Form
form_from f [] = f
form_from f (b ∷ bs) = form_from (more_of f b) bs

-- r is f with t more
pub record From (f : Form) (t : Text) (r : Form) : Type 0 where
  pub is : r ≡ form_from f t
