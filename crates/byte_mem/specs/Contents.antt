-- Definition: a region of bytes as the store keeps them: a cell for each byte, and beside them the pointers of which bytes are parts.
use Rattle.std.specs.Prelude.{◌≡◌, ◌≤◌, ◌<◌, ◌^◌, ℕ, suc, ◌-◌, Bool, true, false, ◌&&◌, nat_eq, if◌then◌else◌, List, [], ◌∷◌, ◌++◌, length, replicate, Option, Some, None}
use Rattle.byte_mem.specs.declared.pointers.Pointer.{Pointer}
use Rattle.byte_mem.specs.declared.values.Byte.{Byte}
use Rattle.byte_mem.specs.declared.values.Byte.TheVariants.{Known, Unknown, Part}
use Rattle.byte_mem.specs.declared.contents.Cell.{Cell}
use Rattle.byte_mem.specs.declared.contents.Cell.TheVariants.{Plain, Blank, Piece}
use Rattle.byte_mem.specs.Name.{same_pointer}

-- what a cell with the pointer at its place stands for
abbrev pub byte_of : Cell → Option Pointer → Byte
byte_of (Plain b) p = Known b
byte_of Blank p = Unknown
byte_of (Piece k) (Some p) = Part p k
byte_of (Piece k) None = Unknown

-- the bytes that the cells and the pointers stand for
abbrev pub seen : List Cell → List Pointer → List Byte
seen [] pointers = []
seen (c ∷ cells) [] = byte_of c None ∷ seen cells []
seen (c ∷ cells) (p ∷ pointers) = byte_of c (Some p) ∷ seen cells pointers

abbrev pub has_pointer : Cell → Option Pointer → Bool
has_pointer (Piece k) None = false
has_pointer c p = true

-- each cell that is a part of a pointer has the pointer at its place
abbrev pub is_covered : List Cell → List Pointer → Bool
is_covered [] pointers = true
is_covered (c ∷ cells) [] = if has_pointer c None then is_covered cells [] else false
is_covered (c ∷ cells) (p ∷ pointers) = is_covered cells pointers

-- what the store keeps of a region: covered cells, and room for a pointer beside each
abbrev pub IsKept : List Cell → List Pointer → ℕ → Type 0
IsKept cells pointers room = (is_covered cells pointers ≡ true) × (length cells ≤ room) × (length cells < 2 ^ 32)

abbrev pub cell_of : Byte → Cell
cell_of (Known b) = Plain b
cell_of Unknown = Blank
cell_of (Part p k) = Piece k

abbrev pub is_plain : Byte → Bool
is_plain (Known b) = true
is_plain Unknown = true
is_plain (Part p k) = false

-- the pointers with a place for the one of cell i
abbrev pub grown : List Pointer → ℕ → Pointer → List Pointer
grown pointers i p = pointers ++ replicate (suc i - length pointers) p

-- the number of a byte that is known
abbrev pub known_in : Byte → Option ℕ
known_in (Known b) = Some b
known_in Unknown = None
known_in (Part p k) = None

-- the byte is the one of that number of the pointer
abbrev pub is_part : Pointer → ℕ → Byte → Bool
is_part p k (Part q j) = same_pointer p q && nat_eq k j
is_part p k (Known b) = false
is_part p k Unknown = false
