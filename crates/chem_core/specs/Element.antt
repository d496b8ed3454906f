-- The symbols of the elements 1 to 103, by number; at 0 is `*`, an atom of any element. For callers.
use Rattle.std.specs.Prelude.{List, ℕ, [], ◌∷◌, codes}

unfoldable pub symbols : List (List ℕ)
symbols =
    codes "*" ∷ codes "H" ∷ codes "He" ∷ codes "Li" ∷ codes "Be" ∷ codes "B" ∷ codes "C" ∷ codes "N" ∷ codes "O"
    ∷ codes "F" ∷ codes "Ne" ∷ codes "Na" ∷ codes "Mg" ∷
    codes "Al" ∷ codes "Si" ∷ codes "P" ∷ codes "S" ∷ codes "Cl" ∷ codes "Ar" ∷ codes "K" ∷ codes "Ca" ∷ codes "Sc"
    ∷ codes "Ti" ∷ codes "V" ∷ codes "Cr" ∷ codes "Mn" ∷
    codes "Fe" ∷ codes "Co" ∷ codes "Ni" ∷ codes "Cu" ∷ codes "Zn" ∷ codes "Ga" ∷ codes "Ge" ∷ codes "As" ∷ codes "Se"
    ∷ codes "Br" ∷ codes "Kr" ∷ codes "Rb" ∷ codes "Sr" ∷
    codes "Y" ∷ codes "Zr" ∷ codes "Nb" ∷ codes "Mo" ∷ codes "Tc" ∷ codes "Ru" ∷ codes "Rh" ∷ codes "Pd" ∷ codes "Ag"
    ∷ codes "Cd" ∷ codes "In" ∷ codes "Sn" ∷ codes "Sb" ∷
    codes "Te" ∷ codes "I" ∷ codes "Xe" ∷ codes "Cs" ∷ codes "Ba" ∷ codes "La" ∷ codes "Ce" ∷ codes "Pr" ∷ codes "Nd"
    ∷ codes "Pm" ∷ codes "Sm" ∷ codes "Eu" ∷ codes "Gd" ∷
    codes "Tb" ∷ codes "Dy" ∷ codes "Ho" ∷ codes "Er" ∷ codes "Tm" ∷ codes "Yb" ∷ codes "Lu" ∷ codes "Hf" ∷ codes "Ta"
    ∷ codes "W" ∷ codes "Re" ∷ codes "Os" ∷ codes "Ir" ∷
    codes "Pt" ∷ codes "Au" ∷ codes "Hg" ∷ codes "Tl" ∷ codes "Pb" ∷ codes "Bi" ∷ codes "Po" ∷ codes "At" ∷ codes "Rn"
    ∷ codes "Fr" ∷ codes "Ra" ∷ codes "Ac" ∷ codes "Th" ∷
    codes "Pa" ∷ codes "U" ∷ codes "Np" ∷ codes "Pu" ∷ codes "Am" ∷ codes "Cm" ∷ codes "Bk" ∷ codes "Cf" ∷ codes "Es"
    ∷ codes "Fm" ∷ codes "Md" ∷ codes "No" ∷ codes "Lr" ∷ []
