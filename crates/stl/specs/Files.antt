-- A binary STL file: a header, the count of faces, and for each face its normal, the nine coordinates of its corners and two bytes more.
use Rattle.std.specs.Prelude.{Bool, true, not, ◌&&◌, List, [], ◌∷◌, ◌++◌, map, ℕ, zero, suc, ◌+◌, ◌*◌, ◌/◌, ◌%◌, length, take, drop, replicate, eqb, Float}
use Rattle.std.specs.Float.Ieee.{is_nan}
use Rattle.byte_words.specs.Bytes.{bytes_of, bytes_all, word_from}
use Rattle.single.specs.Singles.{is_single, value_of, pattern_of}
use Rattle.vector.specs.declared.Vector.{Vector}
use Rattle.path.specs.Strokes.{gather}
use Rattle.path.specs.Tests.{coordinate_good}

-- ---- the layout

-- how many bytes the header has; the count of faces follows
abbrev pub header_bytes : ℕ
header_bytes = 80

-- where the faces begin: after the header and the count
abbrev pub faces_from : ℕ
faces_from = 84

-- how many bytes a face has
abbrev pub face_bytes : ℕ
face_bytes = 50

-- how many bytes a normal or a corner has; the normal stands first
abbrev pub point_bytes : ℕ
point_bytes = 12

-- how many coordinates the corners of a face have
abbrev pub face_numbers : ℕ
face_numbers = 9

-- how many bytes a file of n faces has
abbrev pub size_of : ℕ → ℕ
size_of n = faces_from + face_bytes * n

-- where coordinate k stands, nine a face
abbrev pub place_of : ℕ → ℕ
place_of k = faces_from + face_bytes * (k / face_numbers) + point_bytes + 4 * (k % face_numbers)

-- ---- what is read

-- how many faces a file says that it has
abbrev pub faces_in : List ℕ → ℕ
faces_in bs = word_from bs header_bytes

-- bytes that are a file: as many as the count of faces asks, so at least 84; nothing is missing and nothing follows
unfoldable pub is_stl : List ℕ → Bool
is_stl bs = eqb (length bs) (size_of (faces_in bs))

abbrev pub coordinate_in : List ℕ → ℕ → Float
coordinate_in bs k = value_of (word_from bs (place_of k))

-- corner i, three a face
abbrev pub corner_in : List ℕ → ℕ → Vector
corner_in bs i = record { x = coordinate_in bs (i * 3); y = coordinate_in bs (i * 3 + 1); z = coordinate_in bs (i * 3 + 2) }

-- whether its coordinates are within their bound
unfoldable pub corner_good : List ℕ → ℕ → Bool
corner_good bs i = coordinate_good (corner_in bs i).x && coordinate_good (corner_in bs i).y && coordinate_good (corner_in bs i).z

-- all of them, nine a face
unfoldable pub coordinates_in : List ℕ → List Float
coordinates_in bs = gather (coordinate_in bs) 0 (face_numbers * faces_in bs)

-- ---- what is written

unfoldable pub zeros : ℕ → List ℕ
zeros n = replicate n 0

-- a face: no normal, the patterns of its coordinates, and two bytes that say nothing
unfoldable pub face_of : List Float → List ℕ
face_of cs = zeros point_bytes ++ (bytes_all (map pattern_of cs) ++ zeros 2)

-- n faces, nine coordinates each
unfoldable pub faces_of : ℕ → List Float → List ℕ
faces_of zero cs = []
faces_of (suc n) cs = face_of (take face_numbers cs) ++ faces_of n (drop face_numbers cs)

-- what stands before the faces: an empty header, and how many faces there are
unfoldable pub head_of : ℕ → List ℕ
head_of n = zeros header_bytes ++ bytes_of n

-- the file of coordinates, nine a face
unfoldable pub stl_of : List Float → List ℕ
stl_of cs = let n = length cs / face_numbers in head_of n ++ faces_of n cs

-- coordinates that a file holds as they are: each is exactly an f32, and none is NaN
unfoldable pub all_single : List Float → Bool
all_single [] = true
all_single (c ∷ cs) = is_single c && not (is_nan c) && all_single cs
