pub mod Laws
pub mod Demands
pub mod Squeezed
pub mod Combining
pub mod Steel
pub mod Values
