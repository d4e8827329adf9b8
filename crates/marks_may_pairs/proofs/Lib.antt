-- Laws of the search for pairs of children that may clobber.
pub mod Search
pub mod Again
