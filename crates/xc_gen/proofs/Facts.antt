-- The files of small sizes, written out by hand: a wrong definition does not check here.
use Rattle.std.proofs.Common.{◌≡◌, [], ◌∷◌, ◌++◌, true, false, map, codes, refl, sym, arith}
use Rattle.std.specs.Fmt.{digits}
use Rattle.std.proofs.lemmas.Bool.{false≢true}
use Rattle.xc_base.specs.declared.shelf.File.{File}
use Rattle.xc_gen.specs.declared.side.Side.TheVariants.{Left, Right}
use Rattle.xc_gen.specs.declared.fault.GenFault.TheVariants.{Size, Memory}
use Rattle.xc_gen.specs.Generated.{chain_text, diamond_text, weight, has_value, view_text, map_text, formulas_text, files_of, is_size, IsFaultOf}
use Rattle.xc_gen.specs.Naming.{file_names}

-- the lattices
pub chain : chain_text ≡ codes "lattice chain\nelements F M T\nbelow F M\nbelow M T\nnot F T\nnot M M\nnot T F\n"
unfolding chain_text
chain = refl

pub diamond : diamond_text ≡ codes "lattice diamond\nelements F N B T\nbelow F N\nbelow F B\nbelow N T\nbelow B T\nnot F T\nnot N N\nnot B B\nnot T F\n"
unfolding diamond_text
diamond = refl

pub formulas : formulas_text ≡ codes "EF last\nEG !last\nAF last\nAG EF last\n"
unfolding formulas_text
formulas = refl

-- in turn, for the number 7: T, T, T, M, T, T, T, T, M
pub left_weights : map (weight Left 7) (0 ∷ 1 ∷ 2 ∷ 3 ∷ 4 ∷ 5 ∷ 6 ∷ 7 ∷ 8 ∷ []) ≡ codes "T" ∷ codes "T" ∷ codes "T" ∷ codes "M" ∷ codes "T" ∷ codes "T" ∷ codes "T" ∷ codes "T" ∷ codes "M" ∷ []
left_weights = refl

-- and N, T, T, T, T, B, T, N, T
pub right_weights : map (weight Right 7) (0 ∷ 1 ∷ 2 ∷ 3 ∷ 4 ∷ 5 ∷ 6 ∷ 7 ∷ 8 ∷ []) ≡ codes "N" ∷ codes "T" ∷ codes "T" ∷ codes "T" ∷ codes "T" ∷ codes "B" ∷ codes "T" ∷ codes "N" ∷ codes "T" ∷ []
right_weights = refl

-- the last number of a `u32` goes on to numbers past it
pub last_number : (map (weight Left 4294967295) (0 ∷ 1 ∷ 5 ∷ []) ≡ codes "M" ∷ codes "T" ∷ codes "M" ∷ []) × (map (weight Right 4294967295) (0 ∷ 1 ∷ 2 ∷ 4 ∷ []) ≡ codes "T" ∷ codes "T" ∷ codes "B" ∷ codes "N" ∷ [])
last_number = (refl, refl)

-- one bit
pub left_of_one : view_text Left 7 1 ≡ codes "view left\nlattice chain.lat\nvar b0 0 1\ninit b0=0\nprop last T when b0=1\ncommand set0 with T when b0=0 do b0:=1\n"
unfolding digits has_value view_text
left_of_one = refl

pub right_of_one : view_text Right 7 1 ≡ codes "view right\nlattice diamond.lat\nvar b0 0 1\ninit b0=0\nprop last T when b0=1\ncommand set0 with N when b0=0 do b0:=1\n"
unfolding digits has_value view_text
right_of_one = refl

pub map_of_one : map_text 1 ≡ codes "map gen\nuse left left.view\nuse right right.view\nvar b0 0 1\nprop last\nsend left b0 b0\nsend right b0 b0\ntell left last last\ntell right last last\n"
unfolding digits map_text
map_of_one = refl

-- two bits
pub left_of_two : view_text Left 7 2
    ≡ codes "view left\nlattice chain.lat\nvar b0 0 1\nvar b1 0 1\ninit b0=0&b1=0\nprop last T when b1=1\n"
    ++ codes "command set0 with T when b0=0 do b0:=1\ncommand set1 with T when b0=1&b1=0 do b1:=1\n"
unfolding digits has_value view_text
left_of_two = refl

pub right_of_two : view_text Right 7 2
    ≡ codes "view right\nlattice diamond.lat\nvar b0 0 1\nvar b1 0 1\ninit b0=0&b1=0\nprop last T when b1=1\n"
    ++ codes "command set0 with N when b0=0 do b0:=1\ncommand set1 with T when b0=1&b1=0 do b1:=1\n"
unfolding digits has_value view_text
right_of_two = refl

pub map_of_two : map_text 2
    ≡ codes "map gen\nuse left left.view\nuse right right.view\nvar b0 0 1\nvar b1 0 1\nprop last\nsend left b0 b0\nsend left b1 b1\n"
    ++ codes "send right b0 b0\nsend right b1 b1\ntell left last last\ntell right last last\n"
unfolding digits map_text
map_of_two = refl

-- four bits
pub left_of_four : view_text Left 7 4
    ≡ codes "view left\nlattice chain.lat\nvar b0 0 1\nvar b1 0 1\nvar b2 0 1\nvar b3 0 1\ninit b0=0&b1=0&b2=0&b3=0\nprop last T when b3=1\n"
    ++ codes "command set0 with T when b0=0 do b0:=1\ncommand set1 with T when b0=1&b1=0 do b1:=1\n"
    ++ codes "command set2 with T when b0=1&b1=1&b2=0 do b2:=1\ncommand set3 with M when b0=1&b1=1&b2=1&b3=0 do b3:=1\n"
unfolding digits has_value view_text
left_of_four = refl

pub right_of_four : view_text Right 7 4
    ≡ codes "view right\nlattice diamond.lat\nvar b0 0 1\nvar b1 0 1\nvar b2 0 1\nvar b3 0 1\ninit b0=0&b1=0&b2=0&b3=0\nprop last T when b3=1\n"
    ++ codes "command set0 with N when b0=0 do b0:=1\ncommand set1 with T when b0=1&b1=0 do b1:=1\n"
    ++ codes "command set2 with T when b0=1&b1=1&b2=0 do b2:=1\ncommand set3 with T when b0=1&b1=1&b2=1&b3=0 do b3:=1\n"
unfolding digits has_value view_text
right_of_four = refl

pub map_of_four : map_text 4
    ≡ codes "map gen\nuse left left.view\nuse right right.view\nvar b0 0 1\nvar b1 0 1\nvar b2 0 1\nvar b3 0 1\nprop last\n"
    ++ codes "send left b0 b0\nsend left b1 b1\nsend left b2 b2\nsend left b3 b3\n"
    ++ codes "send right b0 b0\nsend right b1 b1\nsend right b2 b2\nsend right b3 b3\ntell left last last\ntell right last last\n"
unfolding digits map_text
map_of_four = refl

-- the files by their names, and the sizes
pub names : map (λ (file : File). file.name) (files_of 7 4) ≡ file_names
names = refl

pub sizes : map is_size (0 ∷ 1 ∷ 20 ∷ 21 ∷ []) ≡ false ∷ true ∷ true ∷ false ∷ []
sizes = refl

-- no size for which there are files is refused, and another one with no other number, and being out of memory is no refusal
pub within : ¬ IsFaultOf 4 (Size 4) × ¬ IsFaultOf 1 (Size 1) × ¬ IsFaultOf 20 (Size 20) × IsFaultOf 4 Memory
within = ((λ h. false≢true (sym h.1)), (λ h. false≢true (sym h.1)), (λ h. false≢true (sym h.1)), refl)

pub outside : IsFaultOf 21 (Size 21) × ¬ IsFaultOf 21 (Size 20) × ¬ IsFaultOf 21 Memory × IsFaultOf 0 (Size 0) × ¬ IsFaultOf 0 Memory
outside = ((refl, refl), (λ h. omega (arith, h.0)), (λ h. false≢true h), (refl, refl), (λ h. false≢true h))
