-- The record as bytes: an entry is the pile name (1 byte), the weight (4, high byte first) and the moved side (16).
use Rattle.std.specs.Prelude.{ℕ, zero, suc, ◌+◌, ◌*◌, ◌/◌, ◌%◌, ◌^◌, cond, List, [], ◌∷◌, ◌++◌, ltb, length, get_or, take, drop, replicate}
use Rattle.meaning.specs.Room.{over}
use Rattle.meaning.specs.Heap.{Cut}
use Rattle.weighing.specs.Side.{side_of}
use Rattle.cutting.specs.declared.record.Entry.{Entry}

-- the entry size, in bytes
abbrev pub entry_size : ℕ
entry_size = 21

-- the entry at the head of a run of bytes; and an entry's bytes
unfoldable pub entry_of : List ℕ → Entry
entry_of bytes =
    record {
      pile = get_or bytes 0 0;
      weight = get_or bytes 1 0 * 2 ^ 24 + get_or bytes 2 0 * 2 ^ 16 + get_or bytes 3 0 * 2 ^ 8 + get_or bytes 4 0;
      side = take 16 (drop 5 bytes);
    }

abbrev pub head_bytes : ℕ → ℕ → List ℕ
head_bytes pile weight =
    pile ∷ weight / 2 ^ 24 ∷ weight / 2 ^ 16 % 256 ∷ weight / 2 ^ 8 % 256 ∷ weight % 256 ∷ []

unfoldable pub entry_bytes : Entry → List ℕ
entry_bytes e = head_bytes e.pile e.weight ++ e.side

-- entry i of a run of bytes; past its last whole entry, all nought
unfoldable pub entry_at : List ℕ → ℕ → Entry
entry_at bytes i =
    cond (ltb i (length bytes / entry_size)) (entry_of (drop (i * entry_size) bytes)) (record { pile = 0; weight = 0; side = replicate 16 0 })

-- a run of bytes once entry i was written to it, where it has room for that whole entry
unfoldable pub entry_put : List ℕ → ℕ → Entry → List ℕ
entry_put bytes i e =
    cond (ltb i (length bytes / entry_size)) (over bytes (i * entry_size) (entry_bytes e)) bytes

-- the cut that an entry states
unfoldable pub entry_cut : Entry → Cut
entry_cut e = record { name = e.pile; weighs = e.weight; side = side_of e.side }

-- the cuts that the first m entries of a run of bytes state; and all of its whole entries
unfoldable pub cuts_in : ℕ → List ℕ → List Cut
cuts_in zero bytes = []
cuts_in (suc m) bytes = entry_cut (entry_of bytes) ∷ cuts_in m (drop entry_size bytes)

unfoldable pub cuts_of : List ℕ → List Cut
cuts_of bytes = cuts_in (length bytes / entry_size) bytes
